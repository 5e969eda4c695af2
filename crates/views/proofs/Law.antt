-- A table after writes reads as the view after these writes.
use mathlib.Core.Path.{◌≡◌, refl, sym, ap, ◌∙◌, fun_ext}
use Prim.Native.Nat.{ℕ, ◌*◌, ◌≤◌, ◌<◌}
use native.Mathlib.Omega.{arith}
use mathlib.Core.Logic.{◌⊎◌, inl, inr}
use mathlib.Core.Bool.{Bool, true, false}
use mathlib.Core.List.{List, [], ◌∷◌}
use lib.Dec.{ltb, eqb}
use lib.ListN.{length, get_or, set, length-set}
use lib.Seq.{get_or-set_same, get_or-set_other}
use borrow.Author.Tests.{eq-eqb, ne_eqb, eqb-true, eqb-false, ltb-true, ltb-false, lt-ltb, le-ltb}
use Rattle.machine.specs.Choice.{if_b}
use Rattle.machine.specs.Record.{free_rec}
use Rattle.machine.specs.Table.{View, view, place, Write, fill, lead, off, put, puts}
use Rattle.views.specs.Update.{where_to, made, upd, upds, Within}

-- two numbers are the same or not; a slot is in the table or not
pub same_or : (x y : ℕ) → (x ≡ y) ⊎ (x ≡ y → ⊥)
same_or x y = go (eqb x y) refl
  where
    go : (b : Bool) → eqb x y ≡ b → (x ≡ y) ⊎ (x ≡ y → ⊥)
    go true e = inl (eqb-true x y e)
    go false e = inr (eqb-false x y e)

pub in_or_out : (x n : ℕ) → (x < n) ⊎ (n ≤ x)
in_or_out x n = go (ltb x n) refl
  where
    go : (b : Bool) → ltb x n ≡ b → (x < n) ⊎ (n ≤ x)
    go true e = inl (ltb-true x n e)
    go false e = inr (ltb-false x n e)

-- a write changes the record in its slot
pub upd-hit : (v : View) (w : Write) (s : ℕ) → s ≡ where_to w → upd v w s ≡ made w (v s)
unfolding upd if_b
upd-hit v w s e = simp (eq-eqb s (where_to w) e)

-- and no other
pub upd-miss : (v : View) (w : Write) (s : ℕ) → (s ≡ where_to w → ⊥) → upd v w s ≡ v s
unfolding upd if_b
upd-miss v w s d = simp (ne_eqb s (where_to w) d)

-- fields of slots stand apart
apart-field : (s s' f f' : ℕ) → ltb f 6 ≡ true → ltb f' 6 ≡ true → eqb f f' ≡ false → place s f ≡ place s' f' → ⊥
unfolding place
apart-field s s' f f' g g' d e =
    let a : f < 6 = ltb-true f 6 g in
    let b : f' < 6 = ltb-true f' 6 g' in
    eqb-false f f' d (omega arith)

apart-slot : (s s' f f' : ℕ) → ltb f 6 ≡ true → ltb f' 6 ≡ true → (s ≡ s' → ⊥) → place s f ≡ place s' f' → ⊥
unfolding place
apart-slot s s' f f' g g' d e =
    let a : f < 6 = ltb-true f 6 g in
    let b : f' < 6 = ltb-true f' 6 g' in
    d (omega arith)

module _ (n : ℕ) where
  get_same : (t : List ℕ) (s f x : ℕ) → length t ≡ n * 6 → s < n → ltb f 6 ≡ true → get_or (set t (place s f) x) (place s f) 0 ≡ x
  unfolding place
  get_same t s f x e h g = let a : f < 6 = ltb-true f 6 g in get_or-set_same t (place s f) x 0 (omega arith)

  get_field : (t : List ℕ) (s s' f f' x : ℕ) → ltb f 6 ≡ true → ltb f' 6 ≡ true → eqb f f' ≡ false → get_or (set t (place s' f') x) (place s f) 0 ≡ get_or t (place s f) 0
  get_field t s s' f f' x g g' d = get_or-set_other t (place s' f') (place s f) x 0 (apart-field s s' f f' g g' d)

  get_slot : (t : List ℕ) (s s' f f' x : ℕ) → ltb f 6 ≡ true → ltb f' 6 ≡ true → (s ≡ s' → ⊥) → get_or (set t (place s' f') x) (place s f) 0 ≡ get_or t (place s f) 0
  get_slot t s s' f f' x g g' d = get_or-set_other t (place s' f') (place s f) x 0 (apart-slot s s' f f' g g' d)

  len_set : (t : List ℕ) (s f x : ℕ) → length t ≡ n * 6 → length (set t (place s f) x) ≡ n * 6
  len_set t s f x e = length-set t (place s f) x ∙ e

  pub len_put : (t : List ℕ) (w : Write) → length t ≡ n * 6 → length (put t w) ≡ n * 6
  unfolding put
  len_put t (fill s r) e = search len_set depth 8
  len_put t (lead s true a) e = search len_set
  len_put t (lead s false a) e = search len_set
  len_put t (off s) e = search len_set

  pub inside :
      (t : List ℕ) (s : ℕ) → s < n → view n t s
      ≡ record {
        state = get_or t (place s 0) 0;
        number = get_or t (place s 1) 0;
        price = get_or t (place s 2) 0;
        rank = get_or t (place s 3) 0;
        left = get_or t (place s 4) 0;
        right = get_or t (place s 5) 0;
      }
  unfolding view if_b
  inside t s h = rw (lt-ltb s n h)

  pub outside : (t : List ℕ) (s : ℕ) → n ≤ s → view n t s ≡ free_rec
  unfolding view if_b
  outside t s h = rw (le-ltb s n h)

  read_same : (t : List ℕ) (w : Write) → length t ≡ n * 6 → where_to w < n → view n (put t w) (where_to w) ≡ made w (view n t (where_to w))
  unfolding put
  read_same t (fill s r) e h =
      let t₁ = set t (place s 0) r.state in
      let e₁ : length t₁ ≡ n * 6 = len_set t s 0 r.state e in
      let t₂ = set t₁ (place s 1) r.number in
      let e₂ : length t₂ ≡ n * 6 = len_set t₁ s 1 r.number e₁ in
      let t₃ = set t₂ (place s 2) r.price in
      let e₃ : length t₃ ≡ n * 6 = len_set t₂ s 2 r.price e₂ in
      simp (inside, get_same, get_field, len_set)
  read_same t (lead s true a) e h = simp (inside, get_same, get_field)
  read_same t (lead s false a) e h = simp (inside, get_same, get_field)
  read_same t (off s) e h = simp (inside, get_same, get_field)

  read-other : (t : List ℕ) (w : Write) (s : ℕ) → s < n → (s ≡ where_to w → ⊥) → view n (put t w) s ≡ view n t s
  unfolding put
  read-other t (fill s' r) s h d = simp (inside, get_slot)
  read-other t (lead s' true a) s h d = simp (inside, get_slot)
  read-other t (lead s' false a) s h d = simp (inside, get_slot)
  read-other t (off s') s h d = simp (inside, get_slot)

  law₁ : (t : List ℕ) (w : Write) → length t ≡ n * 6 → where_to w < n → view n (put t w) ≡ upd (view n t) w
  law₁ t w e h = fun_ext at_each
    where
      at_each : (s : ℕ) → view n (put t w) s ≡ upd (view n t) w s
      at_each s =
          elim (in_or_out s n) [
            | inl i ↦ (elim (same_or s (where_to w)) [
              | inl q ↦ ap (view n (put t w)) q ∙ read_same t w e h ∙ sym (upd-hit (view n t) w (where_to w) refl) ∙ ap (upd (view n t) w) (sym q)
              | inr d ↦ read-other t w s i d ∙ sym (upd-miss (view n t) w s d)
            ])
            | inr o ↦ outside (put t w) s o ∙ sym (outside t s o) ∙ sym (upd-miss (view n t) w s (λ q. omega arith))
          ]

  -- THE law: writes within the table, on the table and on its view
  pub view-law : (t : List ℕ) (ws : List Write) → length t ≡ n * 6 → Within n ws → view n (puts t ws) ≡ upds (view n t) ws
  unfolding puts
  view-law t [] e h = refl
  view-law t (w ∷ ws) e h = view-law (put t w) ws (len_put t w e) h.1 ∙ ap (λ v. upds v ws) (law₁ t w e h.0)

  -- a table's length stays
  pub length_law : (t : List ℕ) (ws : List Write) → length t ≡ n * 6 → length (puts t ws) ≡ n * 6
  unfolding puts
  length_law t [] e = e
  length_law t (w ∷ ws) e = length_law (put t w) ws (len_put t w e)
