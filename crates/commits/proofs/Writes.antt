-- The view's half of every commit, once: fresh records are written to free slots, the replaced ones are taken off, and the parent's link is led to the new top.
-- What a commit has to give is one equation of counts and that the fresh records make the new tree.
use Prim.Native.Nat.{◌+◌, ◌<◌, ◌≤◌, suc, ℕ}
use mathlib.Core.Bool.{Bool, false, true}
use mathlib.Core.List.{List, [], ◌∷◌}
use mathlib.Core.Logic.{◌⊎◌, inl, inr}
use mathlib.Core.Path.{◌∙◌, ◌≡◌, ap, refl, subst, sym}
use native.Mathlib.Omega.{arith}
use Rattle.machine.specs.Table.{View, Write, fill, lead, off}
use Rattle.routes.proofs.Kept.{Fate, alike, relinked, taken, unused}
use Rattle.routes.proofs.Level.{times}
use Rattle.routes.proofs.Surgery.{Off, in_tree_lem}
use Rattle.terms.specs.declared.Rec.{Rec}
use Rattle.trees.proofs.Held.{Carries, at_place, ind-le, occ_c-entry, occ_c-parent, one_at, one-fresh, one-lead, one-off, root-occ}
use Rattle.trees.proofs.Plug.{apart, frame, ind-cases, ind-eq, ind-other, ind-same, occ-plug, pos-cases, put-together, relink}
use Rattle.trees.specs.Tree.{Ctx, Holds, HoldsC, Tree, hole, ind, join, occ, occ_c, parent, plug, pside, root, side_rec, top}
use Rattle.views.proofs.Law.{same_or, upd-hit, upd-miss}
use Rattle.views.specs.Update.{link, taken_off, upd, upds, with_link}

-- one place of the tree is replaced: what stands there now, the link above, the rest untouched, and the count of the slots in state 1
pub splice : (v w : View) (c : Ctx) (t t' : Tree) → Carries v (plug c t)
    → w (parent c) ≡ with_link (pside c) (root t') (v (parent c))
    → ((x : ℕ) → (x ≡ parent c → ⊥) → 0 < occ_c x c → w x ≡ v x)
    → Holds w t'
    → ((x : ℕ) → one_at w x + occ x t ≡ one_at v x + occ x t')
    → Carries w (plug c t')
splice v w c t t' i up rest new count =
    let g = at_place v c t i in
    let once : occ_c (parent c) c ≤ 1 = omega (arith, i.ones (parent c), occ-plug (parent c) c t, ind-le (v (parent c)).state 1) in
    let p = put-together w c t' (relink v w c (root t) (root t') once up rest g.0) new in
    record { entry = p.0; holds = p.1; ones = λ x. omega (arith, i.ones x, occ-plug x c t, occ-plug x c t', count x) }

-- a fresh slot and the record written there
pub record Fresh : Type 0 where
  pub slot : ℕ
  pub rec : Rec

abbrev pub fresh : ℕ → Rec → Fresh
fresh s r = record { slot = s; rec = r }

abbrev pub freshes : List Fresh → List Write
freshes [] = []
freshes (m ∷ l) = fill m.slot m.rec ∷ freshes l

abbrev pub offs : List ℕ → List Write
offs [] = []
offs (s ∷ l) = off s ∷ offs l

abbrev pub slots : List Fresh → List ℕ
slots [] = []
slots (m ∷ l) = m.slot ∷ slots l

abbrev pub Among : ℕ → Rec → List Fresh → Type 0
Among s r [] = ⊥
Among s r (m ∷ l) = ((s ≡ m.slot) × (m.rec ≡ r)) ⊎ Among s r l

abbrev pub AllOne : List Fresh → Type 0
AllOne [] = Unit {0}
AllOne (m ∷ l) = (m.rec.state ≡ 1) × AllOne l

-- ---- the fresh records

pub fresh-miss : (v : View) (N : List Fresh) (s : ℕ) → times s (slots N) ≡ 0 → upds v (freshes N) s ≡ v s
fresh-miss v [] s z = refl
fresh-miss v (m ∷ N) s z = fresh-miss (upd v (fill m.slot m.rec)) N s (omega arith) ∙ upd-miss v (fill m.slot m.rec) s (λ e. omega (arith, ind-eq s m.slot e))

pub fresh-hit : (v : View) (N : List Fresh) (s : ℕ) (r : Rec) → times s (slots N) ≤ 1 → Among s r N → upds v (freshes N) s ≡ r
fresh-hit v (m ∷ N) s r d (inl e) =
    fresh-miss (upd v (fill m.slot m.rec)) N s (omega (arith, ind-eq s m.slot e.0)) ∙ upd-hit v (fill m.slot m.rec) s e.0 ∙ e.1
fresh-hit v (m ∷ N) s r d (inr h) = fresh-hit (upd v (fill m.slot m.rec)) N s r (omega arith) h
fresh-hit v [] s r d h = elim h [ ]

fresh-ones : (v : View) (N : List Fresh) → AllOne N → ((s : ℕ) → times s (slots N) ≤ 1) → ((s : ℕ) → 1 ≤ times s (slots N) → one_at v s ≡ 0)
    → (s : ℕ) → one_at (upds v (freshes N)) s ≡ one_at v s + times s (slots N)
fresh-ones v [] a d z s = omega arith
fresh-ones v (m ∷ N) a d z s =
    let e = one-fresh v m.slot m.rec a.0 (z m.slot (omega (arith, ind-same m.slot))) in
    omega (
      arith,
      e s,
      fresh-ones (upd v (fill m.slot m.rec)) N a.1 (λ y. omega (arith, d y)) (λ y h. omega (arith, e y, z y (omega arith), d y)) s,
    )

-- ---- the records taken off

pub off_miss : (v : View) (R : List ℕ) (s : ℕ) → times s R ≡ 0 → upds v (offs R) s ≡ v s
off_miss v [] s z = refl
off_miss v (y ∷ R) s z = off_miss (upd v (off y)) R s (omega arith) ∙ upd-miss v (off y) s (λ e. omega (arith, ind-eq s y e))

pub off_hit : (v : View) (R : List ℕ) (s : ℕ) → 1 ≤ times s R → upds v (offs R) s ≡ taken_off (v s)
off_hit v [] s h = absurd (omega arith)
off_hit v (y ∷ R) s h =
    elim (ind-cases s y) [
      | inl q ↦ (let e = upd-hit v (off y) s q.0 in elim (pos-cases (times s R)) [
        | inl p ↦ off_hit (upd v (off y)) R s p ∙ ap taken_off e
        | inr z ↦ off_miss (upd v (off y)) R s z ∙ e
      ])
      | inr q ↦ off_hit (upd v (off y)) R s (omega (arith, q.1)) ∙ ap taken_off (upd-miss v (off y) s q.0)
    ]

off_ones : (v : View) (R : List ℕ) → ((s : ℕ) → times s R ≤ 1) → ((s : ℕ) → 1 ≤ times s R → one_at v s ≡ 1) → (s : ℕ) → one_at (upds v (offs R)) s + times s R ≡ one_at v s
off_ones v [] d z s = omega arith
off_ones v (y ∷ R) d z s =
    let e = one-off v y (z y (omega (arith, ind-same y))) in
    omega (arith, e s, off_ones (upd v (off y)) R (λ x. omega (arith, d x)) (λ x h. omega (arith, e x, z x (omega arith), d x)) s)

-- ---- a node by sides

pub holds_join : (v : View) (b : Bool) (s k rk : ℕ) (t u : Tree) → Holds v (join b s k rk t u) → (v s ≡ side_rec b k rk (root t) (root u)) × Holds v t × Holds v u
holds_join v true s k rk t u h = h
holds_join v false s k rk t u h = (h.0, h.2, h.1)

pub join-holds : (v : View) (b : Bool) (s k rk : ℕ) (t u : Tree) → v s ≡ side_rec b k rk (root t) (root u) → Holds v t → Holds v u → Holds v (join b s k rk t u)
join-holds v true s k rk t u e h g = (e, h, g)
join-holds v false s k rk t u e h g = (e, g, h)

-- the link above a hole leads into it
linked-hole : (v : View) (c : Ctx) (h : ℕ) → HoldsC v c h → link (pside c) (v (parent c)) ≡ h
linked-hole v top h g = ap (λ r. r.left) g
linked-hole v (hole true s k rk u c) h g = ap (λ r. r.left) g.0
linked-hole v (hole false s k rk u c) h g = ap (λ r. r.right) g.0

-- ---- what the lists have to be: fresh slots rise, and are free

abbrev pub Rise : ℕ → List Fresh → Type 0
Rise lo [] = Unit {0}
Rise lo (m ∷ N) = (lo ≤ m.slot) × Rise (suc m.slot) N

rise_low : (lo : ℕ) (N : List Fresh) (s : ℕ) → Rise lo N → s < lo → times s (slots N) ≡ 0
rise_low lo [] s r h = refl
rise_low lo (m ∷ N) s r h = omega (arith, rise_low (suc m.slot) N s r.1 (omega arith), ind-other s m.slot (λ e. omega arith))

pub rise_once : (lo : ℕ) (N : List Fresh) → Rise lo N → (s : ℕ) → times s (slots N) ≤ 1
rise_once lo [] r s = omega arith
rise_once lo (m ∷ N) r s =
    elim (ind-cases s m.slot) [
      | inl q ↦ omega (arith, q.1, rise_low (suc m.slot) N s r.1 (omega (arith, q.0)))
      | inr q ↦ omega (arith, q.1, rise_once (suc m.slot) N r.1 s)
    ]

abbrev pub AllFree : View → List Fresh → Type 0
AllFree v [] = Unit {0}
AllFree v (m ∷ N) = ((v m.slot).state ≡ 0) × AllFree v N

pub all_free : (v : View) (N : List Fresh) → AllFree v N → (s : ℕ) → 1 ≤ times s (slots N) → (v s).state ≡ 0
all_free v [] f s h = absurd (omega arith)
all_free v (m ∷ N) f s h = elim (ind-cases s m.slot) [ inl q ↦ subst (λ y. (v y).state ≡ 0) (sym q.0) f.0 | inr q ↦ all_free v N f.1 s (omega (arith, q.1)) ]

-- the entry stands in the surroundings
pub entry_in : (c : Ctx) (s : ℕ) → ind s 0 ≤ occ_c s c
entry_in c s = elim (ind-cases s 0) [ inl q ↦ omega (arith, q.1, subst (λ y. 1 ≤ occ_c y c) (sym q.0) (occ_c-entry c)) | inr q ↦ omega (arith, q.1) ]

-- a part of the old tree is held on
pub part_held : (v : View) (c : Ctx) (old : Tree) (N : List Fresh) → Carries v (plug c old) → AllFree v N → (T : Tree) → ((s : ℕ) → occ s T ≤ occ s old) → Holds v T → Holds (upds v (freshes N)) T
part_held v c old N i f T le h = frame v (upds v (freshes N)) T (λ s o. fresh-miss v N s (none s o)) h
  where
    none : (s : ℕ) → 0 < occ s T → times s (slots N) ≡ 0
    none s o =
        elim (pos-cases (times s (slots N))) [
          | inl p ↦ absurd (let z : one_at v s ≡ 0 = rw (all_free v N f s p) in omega (arith, i.ones s, occ-plug s c old, le s, entry_in c s))
          | inr e ↦ e
        ]

-- ---- the commit

pub record Commit (v : View) (old new : Tree) (N : List Fresh) (R : List ℕ) : Type 0 where
  pub all_one : AllOne N
  pub once : (s : ℕ) → times s (slots N) ≤ 1
  pub free : (s : ℕ) → 1 ≤ times s (slots N) → (v s).state ≡ 0
  pub from_old : (s : ℕ) → times s R ≤ occ s old
  pub count : (s : ℕ) → occ s new + times s R ≡ occ s old + times s (slots N)
  pub holds : Holds (upds v (freshes N)) new
  pub top-free : (v (root new)).state ≡ 0

-- the view after it; for given lists this is `upds v` of the writes one after the other
abbrev pub wrote : View → Ctx → ℕ → List Fresh → List ℕ → View
wrote v c a N R = upd (upds (upds v (freshes N)) (offs R)) (lead (parent c) (pside c) a)

module _ (v : View) (c : Ctx) (old new : Tree) (N : List Fresh) (R : List ℕ) (i : Carries v (plug c old)) (m : Commit v old new N R) where
  abbrev mid : View
  mid = upds v (freshes N)

  abbrev after : View
  after = wrote v c (root new) N R

  base : (s : ℕ) → occ_c s c + occ s old ≡ one_at v s
  base s = omega (arith, i.ones s, occ-plug s c old)

  no_one : (s : ℕ) → 1 ≤ times s (slots N) → one_at v s ≡ 0
  no_one s h = rw (m.free s h)

  -- a slot of the surroundings is none of the fresh, none of those taken off, and not of the new tree
  aside : (s : ℕ) → 1 ≤ occ_c s c → (times s (slots N) ≡ 0) × (times s R ≡ 0) × (occ s new ≡ 0)
  aside s h = (z, omega (arith, base s, ind-le (v s).state 1, m.from_old s), omega (arith, base s, ind-le (v s).state 1, m.from_old s, m.count s, z))
    where
      z : times s (slots N) ≡ 0
      z = elim (pos-cases (times s (slots N))) [ inl p ↦ absurd (omega (arith, no_one s p, base s)) | inr e ↦ e ]

  at-parent : after (parent c) ≡ with_link (pside c) (root new) (v (parent c))
  at-parent =
      let a = aside (parent c) (occ_c-parent c) in
      upd-hit (upds mid (offs R)) (lead (parent c) (pside c) (root new)) (parent c) refl ∙ ap (with_link (pside c) (root new)) (off_miss mid R (parent c) a.1 ∙ fresh-miss v N (parent c) a.0)

  not_parent : (s : ℕ) → (s ≡ parent c → ⊥) → after s ≡ upds mid (offs R) s
  not_parent s d = upd-miss (upds mid (offs R)) (lead (parent c) (pside c) (root new)) s d

  new_apart : (s : ℕ) → 0 < occ s new → s ≡ parent c → ⊥
  new_apart s h e = apart (λ y. occ y new) s (parent c) h (aside (parent c) (occ_c-parent c)).2 e

  new_kept : (s : ℕ) → 0 < occ s new → after s ≡ mid s
  new_kept s h = not_parent s (new_apart s h) ∙ off_miss mid R s z
    where
      z : times s R ≡ 0
      z = elim (pos-cases (times s (slots N))) [
        | inl p ↦ omega (arith, m.count s, base s, no_one s p, m.once s)
        | inr e ↦ omega (arith, m.count s, base s, ind-le (v s).state 1)
      ]

  old_one : (s : ℕ) → 1 ≤ times s R → one_at v s ≡ 1
  old_one s h = omega (arith, m.from_old s, base s, ind-le (v s).state 1)

  counted : (s : ℕ) → one_at after s + occ s old ≡ one_at v s + occ s new
  counted s =
      let f = fresh-ones v N m.all_one m.once no_one in
      let o = off_ones mid R (λ y. omega (arith, m.from_old y, base y, ind-le (v y).state 1)) (λ y h. omega (arith, f y, old_one y h, ind-le (mid y).state 1)) in
      omega (arith, f s, o s, one-lead (upds mid (offs R)) (parent c) (pside c) (root new) s, m.count s)

  pub commit-inv : Carries (wrote v c (root new) N R) (plug c new)
  commit-inv =
      splice v after c old new i at-parent
      (λ s d h. not_parent s d ∙ off_miss mid R s (aside s h).1 ∙ fresh-miss v N s (aside s h).0)
      (frame mid after new new_kept m.holds) counted

  one : (s : ℕ) → one_at v s ≡ 1 → (v s).state ≡ 1
  one s h = elim (same_or (v s).state 1) [ inl e ↦ e | inr d ↦ absurd (omega (arith, ind-other (v s).state 1 d)) ]

  r_apart : (s : ℕ) → 1 ≤ times s R → s ≡ parent c → ⊥
  r_apart s h e = apart (λ y. times y R) s (parent c) h (aside (parent c) (occ_c-parent c)).1 e

  -- a record that is taken off is no fresh one
  r_old : (s : ℕ) → 1 ≤ times s R → times s (slots N) ≡ 0
  r_old s h = elim (pos-cases (times s (slots N))) [ inl p ↦ absurd (omega (arith, no_one s p, old_one s h)) | inr e ↦ e ]

  was_off : (s : ℕ) → 1 ≤ times s R → after s ≡ taken_off (v s)
  was_off s h = not_parent s (r_apart s h) ∙ off_hit mid R s h ∙ ap taken_off (fresh-miss v N s (r_old s h))

  pub commit-off : (s : ℕ) → 1 ≤ times s R → Off (wrote v c (root new) N R) s
  commit-off s h = ap (λ r. r.state) (was_off s h)

  -- a fresh slot is in state 1 after it
  one-after : (s : ℕ) → 1 ≤ times s (slots N) → (wrote v c (root new) N R s).state ≡ 1
  one-after s h =
      let z : one_at after s ≡ 1 = omega (arith, counted s, m.count s, m.once s, no_one s h, base s, m.from_old s) in
      elim (same_or (after s).state 1) [ inl e ↦ e | inr d ↦ absurd (omega (arith, ind-other (after s).state 1 d)) ]

  pub commit-fate : (s : ℕ) → Fate v (v s) (wrote v c (root new) N R s)
  commit-fate s =
      elim (pos-cases (times s (slots N))) [
        | inl p ↦ unused (m.free s p) (one-after s p)
        | inr z ↦ (elim (pos-cases (times s R)) [
          | inl p ↦ taken (one s (old_one s p)) (was_off s p)
          | inr o ↦ (elim (same_or s (parent c)) [
            | inl e ↦ subst (λ y. Fate v (v y) (after y)) (sym e) parent-fate
            | inr d ↦ alike (not_parent s d ∙ off_miss mid R s o ∙ fresh-miss v N s z)
          ])
        ])
      ]
    where
      parent-one : (v (parent c)).state ≡ 1
      parent-one = one (parent c) (omega (arith, base (parent c), occ_c-parent c, ind-le (v (parent c)).state 1))

      -- a free slot is not the entry's
      not_entry : root new ≡ 0 → ⊥
      not_entry e =
          let z : (v 0).state ≡ 0 = ap (λ y. (v y).state) (sym e) ∙ m.top-free in
          let y : one_at v 0 ≡ 0 = rw z in
          omega (arith, base 0, occ_c-entry c)

      -- the old child is no slot 0
      had_link : link (pside c) (v (parent c)) ≡ 0 → ⊥
      had_link z = root-pos' (linked-hole v c (root old) (at_place v c old i).0) z
        where
          root-pos' : link (pside c) (v (parent c)) ≡ root old → link (pside c) (v (parent c)) ≡ 0 → ⊥
          root-pos' e y = let q : 1 ≤ occ 0 old = rw (sym e ∙ y) at (root-occ old) in omega (arith, base 0, occ_c-entry c, ind-le (v 0).state 1)

      parent-fate : Fate v (v (parent c)) (after (parent c))
      parent-fate = relinked parent-one (pside c) (root new) m.top-free not_entry had_link at-parent

  pub commit-ran : (s : ℕ) → 1 ≤ occ s new → (wrote v c (root new) N R s).state ≡ 1
  commit-ran s h = in_tree_lem after (plug c new) s commit-inv (omega (arith, occ-plug s c new, entry_in c s))

  pub old_once : (s : ℕ) → occ s old ≤ 1
  old_once s = omega (arith, base s, ind-le (v s).state 1)

  pub new_once : (s : ℕ) → occ s new ≤ 1
  new_once s = omega (arith, commit-inv.ones s, occ-plug s c new, ind-le (after s).state 1)
