-- What a slot reaches, where the way down ends well: every record is sound, no slot is reached by two ways, the fares are those of the tree.
use Prim.Native.Nat.{ℕ, ◌≤◌, ◌<◌}
use mathlib.Core.Path.{◌≡◌, refl, sym, ap, ◌∙◌}
use mathlib.Core.Bool.{Bool, true, false}
use mathlib.Core.List.{List, [], ◌∷◌, ◌++◌}
use mathlib.Core.Logic.{◌⊎◌, inl, inr, ◌≢◌}
use native.Mathlib.Omega.{arith}
use lib.Dec.{eqb}
use lib.ListN.{length, get_or, set, length-set, length-append}
use lib.Seq.{get_or-set_same, get_or-set_other}
use Rattle.terms.specs.declared.Rec.{Rec}
use Rattle.machine.specs.Record.{is_leaf, is_fare}
use Rattle.machine.specs.Table.{View, view}
use Rattle.machine.specs.State.{one}
use Rattle.machine.specs.Reach.{Tree, leaf, node, reachable, count_fares}
use Rattle.machine.proofs.Marks.{unmarked, unmarked-set}
use Rattle.machine.proofs.Reach.{reach-unmarked, reach-in}
use Rattle.grounds.specs.Order.{Among, Twice}
use Rattle.grounds.specs.Record.{WellFormed}
use Rattle.grounds.specs.Ways.{Way, link_on, Goes, Fare}
use Rattle.grounds.proofs.Says.{Says, says_not, says_both, says_eq}
use Rattle.grounds.proofs.Records.{says_in_tree, says_leaf, says_sentinel, says_linked}
use Rattle.grounds.proofs.Lists.{among_left, among_right, among_either, twice_append}

-- one mark more
pub mark_kept : (m : List ℕ) (s x : ℕ) → s < length m → get_or (set m s 1) x 0 ≡ 0 → (x ≢ s) × (get_or m x 0 ≡ 0)
mark_kept m s x h e = go (eqb x s) refl
  where
    go : (b : Bool) → eqb x s ≡ b → (x ≢ s) × (get_or m x 0 ≡ 0)
    go true q =
        let p : x ≡ s = (says_eq x s).holds q in
        let a : get_or (set m s 1) s 0 ≡ 0 = rw p at e in
        let c = get_or-set_same m s 1 0 h in absurd (omega arith)
    go false q = let d = (says_eq x s).fails q in (d, sym (get_or-set_other m s x 1 0 d) ∙ e)

pub mark_made : (m : List ℕ) (s x : ℕ) → ¬ (get_or (set m s 1) x 0 ≡ 0) → (x ≡ s) ⊎ (¬ (get_or m x 0 ≡ 0))
mark_made m s x h = go (eqb x s) refl
  where
    go : (b : Bool) → eqb x s ≡ b → (x ≡ s) ⊎ (¬ (get_or m x 0 ≡ 0))
    go true q = inl ((says_eq x s).holds q)
    go false q = inr (λ e. h (get_or-set_other m s x 1 0 ((says_eq x s).fails q) ∙ e))

-- the slots of a tree's fares
abbrev pub fare_slots : Tree → List ℕ
fare_slots (leaf s r) = elim (is_fare r) [ true ↦ s ∷ [] | false ↦ [] ]
fare_slots (node s r a b) = fare_slots a ++ fare_slots b

pub count_slots : (tr : Tree) → length (fare_slots tr) ≡ count_fares tr
count_slots (leaf s r) = go (is_fare r)
  where
    go : (b : Bool) → length {A = ℕ} (elim b [ true ↦ s ∷ [] | false ↦ [] ]) ≡ one b
    go true = refl
    go false = refl
count_slots (node s r a b) =
    let p = count_slots a in
    let q = count_slots b in
    let e = length-append (fare_slots a) (fare_slots b) in omega arith

pub says_fare : (r : Rec) → Says (is_fare r) (Fare r)
unfolding is_fare
says_fare r = says_both _ _ (says_leaf r) (says_not _ (says_sentinel r))

module _ (n : ℕ) (t : List ℕ) where
  abbrev v : View
  v = view n t

  -- slot s was reached with these marks and left the marks m and the tree tr
  pub record Spans (marks m : List ℕ) (s : ℕ) (tr : Tree) : Type 0 where
    pub as_long : length m ≡ length marks
    pub fewer : unmarked m ≤ unmarked marks
    pub kept : (x : ℕ) → get_or m x 0 ≡ 0 → get_or marks x 0 ≡ 0
    pub fresh : (w : Way) (x : ℕ) → Goes (view n t) s w x → get_or marks x 0 ≡ 0
    pub taken : (w : Way) (x : ℕ) → Goes (view n t) s w x → ¬ (get_or m x 0 ≡ 0)
    pub made : (x : ℕ) → ¬ (get_or m x 0 ≡ 0) → (¬ (get_or marks x 0 ≡ 0)) ⊎ ((w : Way) × Goes (view n t) s w x)
    pub sound : (w : Way) (x : ℕ) → Goes (view n t) s w x → WellFormed n x (view n t x) × ((view n t x).state ≡ 1)
    pub once : (w u : Way) (x : ℕ) → Goes (view n t) s w x → Goes (view n t) s u x → w ≡ u
    pub fare-in : (x : ℕ) → Among (fare_slots tr) x → (w : Way) × Goes (view n t) s w x × Fare (view n t x)
    pub fare-there : (w : Way) (x : ℕ) → Goes (view n t) s w x → Fare (view n t x) → Among (fare_slots tr) x
    pub fare-once : ¬ (Twice (fare_slots tr))

  -- what a slot that may be reached is
  module _ (marks : List ℕ) (s : ℕ) (long : length marks ≡ n) (ok : reachable n (view n t) marks s ≡ true) where
    pub below : s < length marks
    below = let h = reach-in n t marks s ok in omega arith

    pub bare : get_or marks s 0 ≡ 0
    bare = reach-unmarked n (view n t) marks s ok

    abbrev Parts : Type 0
    Parts = ((s ≢ 0) × WellFormed n s (view n t s)) × (((view n t s).state ≡ 1) × (get_or marks s 0 ≡ 0))

    parts : Parts
    unfolding reachable
    parts = (says_both _ _ (says_linked (view n t s) n s) (says_both _ _ (says_in_tree (view n t s)) (says_eq (get_or marks s 0) 0))).holds ok

    pub sound-here : WellFormed n s (view n t s) × ((view n t s).state ≡ 1)
    sound-here = (parts.0.1, parts.1.0)

    pub not_entry : s ≢ 0
    not_entry = parts.0.0

    marked-here : ¬ (get_or (set marks s 1) s 0 ≡ 0)
    marked-here e = (mark_kept marks s s below e).0 refl

    less : unmarked (set marks s 1) ≤ unmarked marks
    less = let e = unmarked-set marks s below bare in omega arith

    -- both links of an inner record are there
    pub two-links : is_leaf (view n t s) ≡ false → ((view n t s).left ≢ 0) × ((view n t s).right ≢ 0)
    two-links inner =
        elim sound-here.0.shape [
          | inl h ↦ absurd (not_entry h.0)
          | inr h ↦
              elim h.1 [
                | inl i ↦ absurd ((says_leaf (view n t s)).fails inner i.0)
                | inr i ↦ (i.left-link.0, i.right-link.0)
              ]
        ]

    -- a leaf
    module _ (lf : is_leaf (view n t s) ≡ true) where
      no_way : (b : Bool) → link_on b (view n t s) ≢ 0 → ⊥
      no_way true h = h ((says_leaf (view n t s)).holds lf).0
      no_way false h = h ((says_leaf (view n t s)).holds lf).1

      ends : (w : Way) (x : ℕ) → Goes (view n t) s w x → (w ≡ []) × (x ≡ s)
      ends [] x g = (refl, sym g)
      ends (b ∷ w) x g = absurd (no_way b g.0)

      pub spans_leaf : Spans marks (set marks s 1) s (leaf s (view n t s))
      spans_leaf =
          record {
            as_long = length-set marks s 1;
            fewer = less;
            kept = λ x e. (mark_kept marks s x below e).1;
            fresh = λ w x g. let e = (ends w x g).1 in rw e bare;
            taken = λ w x g. let e = (ends w x g).1 in rw e marked-here;
            made = λ x h. elim (mark_made marks s x h) [ inl e ↦ inr ([], sym e) | inr k ↦ inl k ];
            sound = λ w x g. let e = (ends w x g).1 in rw e sound-here;
            once = λ w u x g k. (ends w x g).0 ∙ sym (ends u x k).0;
            fare-in = fare-leaf (is_fare (view n t s)) refl;
            fare-there = λ w x g f. leaf_fare (is_fare (view n t s)) refl x (ends w x g).1 f;
            fare-once = single (is_fare (view n t s));
          }
        where
          fare-leaf :
              (b : Bool) → is_fare (view n t s) ≡ b → (x : ℕ) → Among (elim b [ true ↦ s ∷ [] | false ↦ [] ]) x
              → (w : Way) × Goes (view n t) s w x × Fare (view n t x)
          fare-leaf true e x (inl q) = ([], sym q, rw q ((says_fare (view n t s)).holds e))
          fare-leaf true e x (inr q) = absurd q
          fare-leaf false e x q = absurd q

          leaf_fare : (b : Bool) → is_fare (view n t s) ≡ b → (x : ℕ) → x ≡ s → Fare (view n t x) → Among (elim b [ true ↦ s ∷ [] | false ↦ [] ]) x
          leaf_fare true e x q f = inl q
          leaf_fare false e x q f = absurd ((says_fare (view n t s)).fails e (rw q at f))

          single : (b : Bool) → ¬ (Twice (elim b [ true ↦ s ∷ [] | false ↦ [] ]))
          single true (inl h) = h
          single true (inr h) = h
          single false h = h

    -- an inner record
    module _
        (inner : is_leaf (view n t s) ≡ false) (one two : List ℕ) (tl tr : Tree)
        (l : Spans (set marks s 1) one (view n t s).left tl) (r : Spans one two (view n t s).right tr)
      where
        back : (x : ℕ) → get_or one x 0 ≡ 0 → get_or (set marks s 1) x 0 ≡ 0
        back x e = l.kept x e

        unmarked-before : (x : ℕ) → get_or (set marks s 1) x 0 ≡ 0 → get_or marks x 0 ≡ 0
        unmarked-before x e = (mark_kept marks s x below e).1

        -- s is on no way below it
        not_left : (w : Way) (x : ℕ) → Goes (view n t) (view n t s).left w x → ¬ (s ≡ x)
        not_left w x g e = (mark_kept marks s x below (l.fresh w x g)).0 (sym e)

        not_right : (w : Way) (x : ℕ) → Goes (view n t) (view n t s).right w x → ¬ (s ≡ x)
        not_right w x g e = (mark_kept marks s x below (back x (r.fresh w x g))).0 (sym e)

        not_both : (w u : Way) (x : ℕ) → Goes (view n t) (view n t s).left w x → Goes (view n t) (view n t s).right u x → ⊥
        not_both w u x g k = l.taken w x g (r.fresh u x k)

        node_fresh : (w : Way) (x : ℕ) → Goes (view n t) s w x → get_or marks x 0 ≡ 0
        node_fresh [] x g = rw (sym g) bare
        node_fresh (true ∷ w) x g = unmarked-before x (l.fresh w x g.1)
        node_fresh (false ∷ w) x g = unmarked-before x (back x (r.fresh w x g.1))

        node_taken : (w : Way) (x : ℕ) → Goes (view n t) s w x → ¬ (get_or two x 0 ≡ 0)
        node_taken [] x g e = marked-here (back s (r.kept s (rw (sym g) at e)))
        node_taken (true ∷ w) x g e = l.taken w x g.1 (r.kept x e)
        node_taken (false ∷ w) x g e = r.taken w x g.1 e

        node_sound : (w : Way) (x : ℕ) → Goes (view n t) s w x → WellFormed n x (view n t x) × ((view n t x).state ≡ 1)
        node_sound [] x g = rw (sym g) sound-here
        node_sound (true ∷ w) x g = l.sound w x g.1
        node_sound (false ∷ w) x g = r.sound w x g.1

        node_once : (w u : Way) (x : ℕ) → Goes (view n t) s w x → Goes (view n t) s u x → w ≡ u
        node_once [] [] x g k = refl
        node_once [] (true ∷ u) x g k = absurd (not_left u x k.1 g)
        node_once [] (false ∷ u) x g k = absurd (not_right u x k.1 g)
        node_once (true ∷ w) [] x g k = absurd (not_left w x g.1 k)
        node_once (false ∷ w) [] x g k = absurd (not_right w x g.1 k)
        node_once (true ∷ w) (true ∷ u) x g k = ap (λ z. true ∷ z) (l.once w u x g.1 k.1)
        node_once (false ∷ w) (false ∷ u) x g k = ap (λ z. false ∷ z) (r.once w u x g.1 k.1)
        node_once (true ∷ w) (false ∷ u) x g k = absurd (not_both w u x g.1 k.1)
        node_once (false ∷ w) (true ∷ u) x g k = absurd (not_both u w x k.1 g.1)

        node_made : (x : ℕ) → ¬ (get_or two x 0 ≡ 0) → (¬ (get_or marks x 0 ≡ 0)) ⊎ ((w : Way) × Goes (view n t) s w x)
        node_made x h =
            elim (r.made x h) [
              | inr g ↦ inr (false ∷ g.0, ((two-links inner).1, g.1))
              | inl i ↦
                  elim (l.made x i) [
                    | inr g ↦ inr (true ∷ g.0, ((two-links inner).0, g.1))
                    | inl j ↦ elim (mark_made marks s x j) [ inl e ↦ inr ([], sym e) | inr k ↦ inl k ]
                  ]
            ]

        node_fare : (x : ℕ) → Among (fare_slots tl ++ fare_slots tr) x → (w : Way) × Goes (view n t) s w x × Fare (view n t x)
        node_fare x h =
            elim (among_either (fare_slots tl) (fare_slots tr) x h) [
              | inl i ↦ (let f = l.fare-in x i in (true ∷ f.0, ((two-links inner).0, f.1), f.2))
              | inr i ↦ (let f = r.fare-in x i in (false ∷ f.0, ((two-links inner).1, f.1), f.2))
            ]

        fare-node : (w : Way) (x : ℕ) → Goes (view n t) s w x → Fare (view n t x) → Among (fare_slots tl ++ fare_slots tr) x
        fare-node [] x g f = absurd ((says_leaf (view n t s)).fails inner (let h : Fare (view n t s) = rw (sym g) at f in h.0))
        fare-node (true ∷ w) x g f = among_left (fare_slots tl) (fare_slots tr) x (l.fare-there w x g.1 f)
        fare-node (false ∷ w) x g f = among_right (fare_slots tl) (fare_slots tr) x (r.fare-there w x g.1 f)

        pub spans_node : Spans marks two s (node s (view n t s) tl tr)
        spans_node =
            record {
              as_long = r.as_long ∙ l.as_long ∙ length-set marks s 1;
              fewer = let a = l.fewer in let b = r.fewer in let c = less in omega arith;
              kept = λ x e. unmarked-before x (back x (r.kept x e));
              fresh = node_fresh;
              taken = node_taken;
              made = node_made;
              sound = node_sound;
              once = node_once;
              fare-in = node_fare;
              fare-there = fare-node;
              fare-once =
                  twice_append (fare_slots tl) (fare_slots tr) l.fare-once r.fare-once
                  (λ a i k. let f = l.fare-in a i in let g = r.fare-in a k in not_both f.0 g.0 a f.1 g.1);
            }
