-- A turn on known bytes: what was read are the first 12 of them, and the rest stays.
use Rattle.std.proofs.Common.{◌≡◌, ◌⊎◌, inl, inr, ℕ, ◌<◌, ◌≤◌, List, [], ◌++◌, length, take, drop, Some, None, IfSome, sym, ap, subst, ◌∙◌, arith, append-nil, take_all, drop_of_length-le, length-take-le, length-append, ◌+◌}
use Rattle.std.specs.declared.option.Option.{Option}
use Rattle.std.specs.Io.KnownBytes.{Appends, Consumes, IsAtEnd}
use Rattle.std.proofs.Math.Nat.{eq-or-lt_of_le}
use Rattle.std.proofs.Math.Seq.{take-append_seam, drop-append_seam}
use Rattle.terms.specs.declared.State.{State}
use Rattle.machine.specs.CallFile.{record_of}
use Rattle.playing.specs.Text.{line_bytes}
use Rattle.playing.specs.Turn.{Turns}

-- bytes in front of others, k of them or all that there are
chunk_of : (k : ℕ) (chunk xs ys : List ℕ) → length chunk ≤ k → xs ≡ chunk ++ ys → (length chunk < k → ys ≡ []) → (chunk ≡ take k xs) × (ys ≡ drop k xs)
chunk_of k chunk xs ys fits e end = cases (eq-or-lt_of_le fits)
  where
    cases : (length chunk ≡ k) ⊎ (length chunk < k) → (chunk ≡ take k xs) × (ys ≡ drop k xs)
    cases (inl same) = (sym (ap (λ n. take n xs) (sym same) ∙ ap (take (length chunk)) e ∙ take-append_seam chunk ys), sym (ap (λ n. drop n xs) (sym same) ∙ ap (drop (length chunk)) e ∙ drop-append_seam chunk ys))
    cases (inr less) =
        let none = end less in
        let all : xs ≡ chunk = e ∙ ap (λ l. chunk ++ l) none ∙ append-nil chunk in
        let long : length xs ≤ k = rw (all) (omega arith) in
        (sym (take_all k xs long ∙ all), none ∙ sym (drop_of_length-le xs long))

-- a record was read, served and printed
pub turn_of : (old new from to : Option (List ℕ)) (p n : ℕ) (rec t t' : List ℕ) (st st' : State) (l : List ℕ)
    → 0 < n → n ≤ length rec → length rec ≡ 12 → Consumes old new (take n rec) → (n < length rec → IsAtEnd new)
    → record { table = t'; state = st'; line = l } ≡ record_of t st p (take n rec) → Appends from to (line_bytes l)
    → IfSome old (λ bs. Turns bs p t st (Some st') t' new from to)
turn_of None new from to p n rec t t' st st' l some fits long read end served wrote = tt
turn_of (Some xs) None from to p n rec t t' st st' l some fits long read end served wrote = absurd read
turn_of (Some xs) (Some ys) from to p n rec t t' st st' l some fits long read end served wrote =
    let chunk = take n rec in
    let count : length chunk ≡ n = length-take-le n rec fits in
    let split = chunk_of 12 chunk xs ys (omega arith) read (λ h. end (omega arith)) in
    let did : record { table = t'; state = st'; line = l } ≡ record_of t st p (take 12 xs) = served ∙ ap (λ b. record_of t st p b) split.0 in
    let all : length xs ≡ length chunk + length ys = ap length read ∙ length-append chunk ys in
    (omega arith, ap Some split.1, (ap (λ r. r.table) did, ap (λ r. r.state) did, subst (λ r. Appends from to (line_bytes r.line)) did wrote))
