-- What the loop keeps: the lines that were written, and in front of them those that the rest of the input gives.
use Rattle.std.proofs.Common.{◌≡◌, ℕ, zero, suc, ◌+◌, ◌<◌, ◌≤◌, List, [], ◌∷◌, ◌++◌, length, take, drop, replicate, Some, None, IfSome, Result, Ok, Err, OnOk, ◌^◌, refl, sym, ap, subst, ◌∙◌, arith, append_assoc, length-drop}
use Rattle.std.specs.declared.option.Option.{Option}
use Rattle.std.specs.Io.KnownBytes.{Appends, Keeps}
use Rattle.std.proofs.KnownBytes.{Appends-nil, Appends-trans}
use Rattle.std.proofs.lemmas.Bool.{ne_eqb}
use Rattle.terms.specs.declared.State.{State}
use Rattle.terms.specs.declared.Out.{Out}
use Rattle.machine.specs.State.{fresh_state}
use Rattle.machine.specs.Contract.{after}
use Rattle.machine.specs.Calls.{figures_of, reset_of}
use Rattle.machine.specs.CallFile.{record_of, end_line, lines_from, program_of}
use Rattle.playing.specs.Text.{line_bytes, end_bytes, bytes_of}
use Rattle.playing.specs.Turn.{IsTurned, Turns}

Appends-kept : (a b c : Option (List ℕ)) (bs : List ℕ) → Appends a b bs → Keeps b c → Appends a c bs
Appends-kept None b c bs p q = tt
Appends-kept (Some x) None c bs p q = absurd p
Appends-kept (Some x) (Some y) None bs p q = absurd q
Appends-kept (Some x) (Some y) (Some z) bs p q = q ∙ p

-- the last line, of a table and a state
abbrev last_of : List ℕ → State → List ℕ
last_of t st = end_line (figures_of t st).figures

-- no record is left
none_left : (g p : ℕ) (t : List ℕ) (st : State) (bs : List ℕ) → length bs ≡ 0 → lines_from g p t st bs ≡ last_of t st ∷ []
unfolding lines_from
none_left zero p t st bs e = refl
none_left (suc g) p t st [] e = refl
none_left (suc g) p t st (b ∷ bs) e = absurd (omega arith)

-- the line of a record, and those after it
one_more : (g p : ℕ) (t : List ℕ) (st : State) (bs : List ℕ) → 0 < length bs
    → lines_from (suc g) p t st bs ≡ (record_of t st p (take 12 bs)).line ∷ lines_from g (p + 1) (record_of t st p (take 12 bs)).table (record_of t st p (take 12 bs)).state (drop 12 bs)
unfolding lines_from
one_more g p t st bs h = rw (ne_eqb (length bs) 0 (λ e. omega arith), lines_from) refl

-- a line in front of others is written in front of them: there is always a last one
in_front : (l : List ℕ) (g p : ℕ) (t : List ℕ) (st : State) (bs : List ℕ) → bytes_of (l ∷ lines_from g p t st bs) ≡ line_bytes l ++ bytes_of (lines_from g p t st bs)
unfolding lines_from bytes_of
in_front l zero p t st bs = refl
in_front l (suc g) p t st [] = refl
in_front l (suc g) p t st (b ∷ bs) =
    let e = one_more g p t st (b ∷ bs) (omega arith) in
    ap (λ ls. bytes_of (l ∷ ls)) e ∙ ap (λ ls. line_bytes l ++ bytes_of ls) (sym e)

-- before the record at a place
pub record Going (bs : List ℕ) (place : ℕ) (t : List ℕ) (st : State) (left from to : Option (List ℕ)) : Type 0 where
  pub rest : List ℕ
  pub has : left ≡ Some rest
  pub gas : ℕ
  pub count : place + gas ≡ length bs + 1
  pub enough : length rest ≤ gas
  pub written : List ℕ
  pub wrote : Appends from to written
  pub ahead : bytes_of (program_of bs) ≡ written ++ bytes_of (lines_from gas place t st rest)

-- before the first record
pub starts : (left from : Option (List ℕ)) (t : List ℕ) (o : Out) → after t o ≡ reset_of (replicate 384 0) fresh_state → IfSome left (λ bs. Going bs 1 t o.state left from from)
unfolding program_of after
starts None from t o e = tt
starts (Some bs) from t o e =
    record {
      rest = bs;
      has = refl;
      gas = length bs;
      count = omega arith;
      enough = omega arith;
      written = [];
      wrote = Appends-nil from;
      ahead = ap (λ l. bytes_of (lines_from (length bs) 1 l.table l.state bs)) (sym e);
    }

-- one more record
goes_by : (g : ℕ) (bs : List ℕ) (place : ℕ) (t t' : List ℕ) (st st' : State) (rest : List ℕ) (left' from mid to : Option (List ℕ)) (written : List ℕ)
    → place + g ≡ length bs + 1 → length rest ≤ g → Appends from mid written → bytes_of (program_of bs) ≡ written ++ bytes_of (lines_from g place t st rest)
    → 0 < length rest → left' ≡ Some (drop 12 rest) → IsTurned (record_of t st place (take 12 rest)) t' st' mid to → Going bs (place + 1) t' st' left' from to
goes_by zero bs place t t' st st' rest left' from mid to written count enough wrote ahead some has did = absurd (omega arith)
goes_by (suc g) bs place t t' st st' rest left' from mid to written count enough wrote ahead some has did =
    let r = record_of t st place (take 12 rest) in
    let after = bytes_of (lines_from g (place + 1) r.table r.state (drop 12 rest)) in
    let joined : bytes_of (program_of bs) ≡ (written ++ line_bytes r.line) ++ after =
    ahead ∙ ap (λ ls. written ++ bytes_of ls) (one_more g place t st rest some)
    ∙ ap (λ l. written ++ l) (in_front r.line g (place + 1) r.table r.state (drop 12 rest)) ∙ sym (append_assoc written (line_bytes r.line) after) in
    record {
      rest = drop 12 rest;
      has = has;
      gas = g;
      count = omega arith;
      enough = rw (length-drop 12 rest) (omega arith);
      written = written ++ line_bytes r.line;
      wrote = Appends-trans from mid to _ _ wrote did.2;
      ahead = joined ∙ ap (λ u. (written ++ line_bytes r.line) ++ bytes_of (lines_from g (place + 1) u r.state (drop 12 rest))) (sym did.0)
          ∙ ap (λ s. (written ++ line_bytes r.line) ++ bytes_of (lines_from g (place + 1) t' s (drop 12 rest))) (sym did.1);
    }

pub goes_on : (start left left' from mid to : Option (List ℕ)) (place : ℕ) (t t' : List ℕ) (st st' : State) (next : Option State) → next ≡ Some st'
    → IfSome start (λ bs. Going bs place t st left from mid) → IfSome left (λ xs. Turns xs place t st next t' left' mid to)
    → IfSome start (λ bs. Going bs (place + 1) t' st' left' from to)
goes_on None left left' from mid to place t t' st st' next e q h = tt
goes_on (Some bs) left left' from mid to place t t' st st' next e q h =
    let some = rw e at h in
    let did : Turns q.rest place t st (Some st') t' left' mid to = subst (λ l. IfSome l (λ xs. Turns xs place t st (Some st') t' left' mid to)) q.has some in
    goes_by q.gas bs place t t' st st' q.rest left' from mid to q.written q.count q.enough q.wrote q.ahead did.0 did.1 did.2

-- the figures are all that is to come
pub record Ended (bs : List ℕ) (t : List ℕ) (st : State) (from to : Option (List ℕ)) : Type 0 where
  pub written : List ℕ
  pub wrote : Appends from to written
  pub ahead : bytes_of (program_of bs) ≡ written ++ end_bytes (last_of t st)

ended : (bs : List ℕ) (place : ℕ) (t : List ℕ) (st : State) (left from to : Option (List ℕ)) (q : Going bs place t st left from to) → length q.rest ≡ 0 → Ended bs t st from to
unfolding bytes_of
ended bs place t st left from to q none =
    record { written = q.written; wrote = q.wrote; ahead = q.ahead ∙ ap (λ ls. q.written ++ bytes_of ls) (none_left q.gas place t st q.rest none) }

-- after as many records as there are places
pub full : (start left from to : Option (List ℕ)) (place : ℕ) (t : List ℕ) (st : State) → 18446744073709551616 ≤ place
    → IfSome start (λ bs. Going bs place t st left from to) → IfSome start (λ bs. length bs < 2 ^ 64 → Ended bs t st from to)
full None left from to place t st most q = tt
full (Some bs) left from to place t st most q = λ short.
    let count = q.count in
    let enough = q.enough in
    ended bs place t st left from to q (omega arith)

-- after a turn that found no record
pub over : (start left left' from mid to : Option (List ℕ)) (place : ℕ) (t t' : List ℕ) (st : State) (next : Option State) → next ≡ None
    → IfSome start (λ bs. Going bs place t st left from mid) → IfSome left (λ xs. Turns xs place t st next t' left' mid to)
    → IfSome start (λ bs. length bs < 2 ^ 64 → Ended bs t' st from to)
over None left left' from mid to place t t' st next e q h = tt
over (Some bs) left left' from mid to place t t' st next e q h = λ short.
    let none = rw e at h in
    let did : Turns q.rest place t st None t' left' mid to = subst (λ l. IfSome l (λ xs. Turns xs place t st None t' left' mid to)) q.has none in
    let last = ended bs place t st left from mid q did.0 in
    record {
      written = last.written;
      wrote = Appends-kept from mid to last.written last.wrote did.2;
      ahead = last.ahead ∙ ap (λ u. last.written ++ end_bytes (last_of u st)) (sym did.1);
    }

-- and the figures are written
pub known_ends : {A E : Type 0} (r : Result A E) (start from mid to : Option (List ℕ)) (t : List ℕ) (st : State) → IfSome start (λ bs. length bs < 2 ^ 64 → Ended bs t st from mid)
    → OnOk r (Appends mid to (end_bytes (last_of t st))) → OnOk r (IfSome start (λ bs. length bs < 2 ^ 64 → Appends from to (bytes_of (program_of bs))))
known_ends (Err e) start from mid to t st q h = tt
known_ends (Ok v) None from mid to t st q h = tt
known_ends (Ok v) (Some bs) from mid to t st q h = λ short.
    let last = q short in
    subst (Appends from to) (sym last.ahead) (Appends-trans from mid to _ _ last.wrote h)
