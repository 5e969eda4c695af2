-- What the entry reaches is damaged exactly where document 01 says so.
use Prim.Native.Nat.{ℕ, zero, suc, ◌≤◌, ◌<◌}
use mathlib.Core.Path.{◌≡◌, refl, sym, ap, ◌∙◌}
use mathlib.Core.Bool.{Bool, true, false, ◌&&◌, not, true≢false}
use mathlib.Core.List.{List, [], ◌∷◌, ◌++◌}
use mathlib.Core.Logic.{◌⊎◌, inl, inr, ◌≢◌}
use native.Mathlib.Omega.{arith}
use lib.ListN.{length, get_or, set, replicate, length-set, length-replicate}
use Rattle.terms.specs.declared.Rec.{Rec}
use Rattle.machine.specs.Record.{well_formed, in_tree, is_leaf}
use Rattle.machine.specs.Table.{View, view}
use Rattle.machine.specs.Reach.{Tree, leaf, node, Reached, hurt, reached, join_left, join_right, reachable, reach_from, reach}
use Rattle.machine.proofs.Choice.{if_elim}
use Rattle.machine.proofs.Marks.{unmarked, unmarked-set, unmarked-all}
use Rattle.machine.proofs.Reach.{reach-hurt, reach-leaf, reach-inner}
use Rattle.grounds.specs.Order.{Among}
use Rattle.grounds.specs.Record.{WellFormed}
use Rattle.grounds.specs.Ways.{Way, link_on, Goes, ReachDamaged, not_well_formed, in_state_2, reached-twice, Fare, Fares}
use Rattle.grounds.proofs.Says.{Denies, denies-not, denies-both, says_struck, unless, says_both, says_eq}
use Rattle.grounds.proofs.Records.{says_in_tree, says_formed, says_linked}
use Rattle.grounds.proofs.Lists.{no_longer}
use Rattle.grounds.proofs.Spans.{mark_kept, mark_made, fare_slots, Spans, below, bare, two-links, spans_leaf, spans_node}

-- hurt is nothing reached
abbrev is_hurt : Reached → Bool
is_hurt hurt = true
is_hurt (reached tr m) = false

not_hurt : (tr : Tree) (m : List ℕ) → hurt ≡ reached tr m → ⊥
not_hurt tr m e = true≢false (ap (λ r. is_hurt r) e)

abbrev tree_of : Tree → Reached → Tree
tree_of d hurt = d
tree_of d (reached tr m) = tr

abbrev marks_of : Reached → List ℕ
marks_of hurt = []
marks_of (reached tr m) = m

-- a side that ended well
record Sides (s : ℕ) (r : Rec) (l : Reached) (f : List ℕ → Reached) (tr : Tree) (m : List ℕ) : Type 0 where
  tree-left : Tree
  tree-right : Tree
  marks-left : List ℕ
  on-left : l ≡ reached tree-left marks-left
  on-right : f marks-left ≡ reached tree-right m
  joined : node s r tree-left tree-right ≡ tr

sides : (s : ℕ) (r : Rec) (l : Reached) (f : List ℕ → Reached) (tr : Tree) (m : List ℕ) → join_left s r l f ≡ reached tr m → Sides s r l f tr m
sides s r hurt f tr m e = absurd (not_hurt tr m e)
sides s r (reached tl ml) f tr m e = go (f ml) refl e
  where
    go : (x : Reached) → f ml ≡ x → join_right s r tl x ≡ reached tr m → Sides s r (reached tl ml) f tr m
    go hurt p q = absurd (not_hurt tr m q)
    go (reached u mu) p q =
        record {
          tree-left = tl;
          tree-right = u;
          marks-left = ml;
          on-left = refl;
          on-right = p ∙ ap (λ k. reached u k) (ap (λ k. marks_of k) q);
          joined = ap (λ k. tree_of tl k) q;
        }

module _ (n : ℕ) (t : List ℕ) where
  -- the way down that ended well
  abbrev Spanned : ℕ → Type 0
  Spanned g =
      (marks : List ℕ) (s : ℕ) (tr : Tree) (m : List ℕ) → length marks ≡ n → reach_from g n (view n t) marks s ≡ reached tr m → Spans n t marks m s tr

  spans_as : (marks m k : List ℕ) (s : ℕ) (tr u : Tree) → m ≡ k → tr ≡ u → Spans n t marks m s tr → Spans n t marks k s u
  spans_as marks m k s tr u e f h = rw (sym e, sym f) h

  spanned-inner :
      (g : ℕ) → Spanned g → (marks : List ℕ) (s : ℕ) (tr : Tree) (m : List ℕ) → length marks ≡ n → reachable n (view n t) marks s ≡ true
      → is_leaf (view n t s) ≡ false
      → Sides s (view n t s) (reach_from g n (view n t) (set marks s 1) (view n t s).left) (λ k. reach_from g n (view n t) k (view n t s).right) tr m
      → Spans n t marks m s tr
  spanned-inner g rec marks s tr m long ok lf d =
      let lm : length (set marks s 1) ≡ n = length-set marks s 1 ∙ long in
      let l = rec (set marks s 1) (view n t s).left d.tree-left d.marks-left lm d.on-left in
      let r = rec d.marks-left (view n t s).right d.tree-right m (l.as_long ∙ lm) d.on-right in
      spans_as marks m m s (node s (view n t s) d.tree-left d.tree-right) tr refl d.joined
      (spans_node n t marks s long ok lf d.marks-left m d.tree-left d.tree-right l r)

  pub spanned : (g : ℕ) → Spanned g
  unfolding reach_from
  spanned zero marks s tr m long e = absurd (not_hurt tr m e)
  spanned (suc g) marks s tr m long e = go (spanned g) (reachable n (view n t) marks s) refl (is_leaf (view n t s)) refl
    where
      go : Spanned g → (b : Bool) → reachable n (view n t) marks s ≡ b → (c : Bool) → is_leaf (view n t s) ≡ c → Spans n t marks m s tr
      go rec false ok c lf = absurd (not_hurt tr m (sym (reach-hurt n (view n t) marks s ok (suc g)) ∙ e))
      go rec true ok true lf =
          let q = sym (reach-leaf n (view n t) marks s ok lf g) ∙ e in
          spans_as marks (set marks s 1) m s (leaf s (view n t s)) tr (ap (λ k. marks_of k) q) (ap (λ k. tree_of tr k) q)
          (spans_leaf n t marks s long ok lf)
      go rec true ok false lf =
          spanned-inner g rec marks s tr m long ok lf (sides s (view n t s) _ _ tr m (sym (reach-inner n (view n t) marks s ok lf g) ∙ e))

-- ways one after another
along : (v : View) (a b c : ℕ) (w u : Way) → Goes v a w b → Goes v b u c → Goes v a (w ++ u) c
along v a b c [] u g k = rw g k
along v a b c (side ∷ w) u g k = (g.0, along v (link_on side (v a)) b c w u g.1 k)

-- a way that was gone before another: it stops on the other, or turns left where the other turns right
abbrev Before : Way → Way → Type 0
Before [] [] = ⊥
Before [] (b ∷ u) = Unit {0}
Before (a ∷ w) [] = ⊥
Before (true ∷ w) (true ∷ u) = Before w u
Before (true ∷ w) (false ∷ u) = Unit {0}
Before (false ∷ w) (true ∷ u) = ⊥
Before (false ∷ w) (false ∷ u) = Before w u

before_self : (w : Way) → Before w w → ⊥
before_self [] h = h
before_self (true ∷ w) h = before_self w h
before_self (false ∷ w) h = before_self w h

before-other : (w u : Way) → Before w u → w ≢ u
before-other w u h e = before_self u (rw e at h)

before-longer : (w u x : Way) → Before w u → Before w (u ++ x)
before-longer [] [] x h = absurd h
before-longer [] (b ∷ u) x h = tt
before-longer (a ∷ w) [] x h = absurd h
before-longer (true ∷ w) (true ∷ u) x h = before-longer w u x h
before-longer (true ∷ w) (false ∷ u) x h = tt
before-longer (false ∷ w) (true ∷ u) x h = absurd h
before-longer (false ∷ w) (false ∷ u) x h = before-longer w u x h

before_on : (w : Way) (b : Bool) → Before w (w ++ (b ∷ []))
before_on [] b = tt
before_on (true ∷ w) b = before_on w b
before_on (false ∷ w) b = before_on w b

before-right : (w u : Way) → Before (w ++ (true ∷ u)) (w ++ (false ∷ []))
before-right [] u = tt
before-right (true ∷ w) u = before-right w u
before-right (false ∷ w) u = before-right w u

module _ (n : ℕ) (t : List ℕ) where
  -- every mark was made on a way gone before this one
  abbrev Known : List ℕ → Way → Type 0
  Known marks cur = (x : ℕ) → ¬ (get_or marks x 0 ≡ 0) → (w : Way) × Goes (view n t) 0 w x × Before w cur

  -- a record that is not in state 1 is hurt or in state 2
  not_in_tree : (s : ℕ) (cur : Way) → Goes (view n t) 0 cur s → ¬ ((view n t s).state ≡ 1) → ReachDamaged (view n t) n
  not_in_tree s cur g z = go (well_formed n s (view n t s)) refl
    where
      go : (b : Bool) → well_formed n s (view n t s) ≡ b → ReachDamaged (view n t) n
      go true q = elim ((says_formed (view n t s) n s).holds q).state_1_or_2 [ inl a ↦ absurd (z a) | inr a ↦ in_state_2 cur s g a ]
      go false q = not_well_formed cur s g ((says_formed (view n t s) n s).fails q)

  -- a slot that may not be reached
  lost-here :
      (marks : List ℕ) (s : ℕ) (cur : Way) → Goes (view n t) 0 cur s → s ≢ 0 → Known marks cur → reachable n (view n t) marks s ≡ false
      → ReachDamaged (view n t) n
  unfolding reachable
  lost-here marks s cur g nz known e =
      elim ((denies-both _ _ (denies-not _ (says_linked (view n t s) n s)) (denies-both _ _ (denies-not _ (says_in_tree (view n t s))) (denies-not _ (says_eq (get_or marks s 0) 0)))).struck e) [
        | inl x ↦ not_well_formed cur s g (λ h. x (nz, h))
        | inr x ↦
            elim x [
              | inl z ↦ not_in_tree s cur g z
              | inr z ↦ (let k = known s z in reached-twice k.0 cur s (before-other k.0 cur k.2) k.1 g)
            ]
      ]

  -- the way down that was lost
  abbrev Lost : ℕ → Type 0
  Lost g =
      (marks : List ℕ) (s : ℕ) (cur : Way) → length marks ≡ n → Goes (view n t) 0 cur s → s ≢ 0 → Known marks cur → unmarked marks < g
      → reach_from g n (view n t) marks s ≡ hurt → ReachDamaged (view n t) n

  -- below an inner record: on its left, or else on its right
  module _
      (g : ℕ) (rec : Lost g) (marks : List ℕ) (s : ℕ) (cur : Way) (long : length marks ≡ n) (way : Goes (view n t) 0 cur s) (known : Known marks cur)
      (gas : unmarked marks < suc g) (ok : reachable n (view n t) marks s ≡ true) (inner : is_leaf (view n t s) ≡ false)
    where
      links : ((view n t s).left ≢ 0) × ((view n t s).right ≢ 0)
      links = two-links n t marks s long ok inner

      to-left : Goes (view n t) 0 (cur ++ (true ∷ [])) (view n t s).left
      to-left = along (view n t) 0 s (view n t s).left cur (true ∷ []) way (links.0, refl)

      to-right : Goes (view n t) 0 (cur ++ (false ∷ [])) (view n t s).right
      to-right = along (view n t) 0 s (view n t s).right cur (false ∷ []) way (links.1, refl)

      long-set : length (set marks s 1) ≡ n
      long-set = length-set marks s 1 ∙ long

      gas-set : unmarked (set marks s 1) < g
      gas-set = let e = unmarked-set marks s (below n t marks s long ok) (bare n t marks s long ok) in omega arith

      known_set : (b : Bool) → Known (set marks s 1) (cur ++ (b ∷ []))
      known_set b x h =
          elim (mark_made marks s x h) [
            | inl e ↦ (cur, rw e way, before_on cur b)
            | inr k ↦ (let w = known x k in (w.0, w.1, before-longer w.0 cur (b ∷ []) w.2))
          ]

      known_left : (m : List ℕ) (tr : Tree) → Spans n t (set marks s 1) m (view n t s).left tr → Known m (cur ++ (false ∷ []))
      known_left m tr l x h =
          elim (l.made x h) [
            | inl k ↦ known_set false x k
            | inr w ↦ (cur ++ (true ∷ w.0), along (view n t) 0 s x cur (true ∷ w.0) way (links.0, w.1), before-right cur w.0)
          ]

      below-lost :
          (l : Reached) → reach_from g n (view n t) (set marks s 1) (view n t s).left ≡ l
          → join_left s (view n t s) l (λ k. reach_from g n (view n t) k (view n t s).right) ≡ hurt → ReachDamaged (view n t) n
      below-lost hurt p q = rec (set marks s 1) (view n t s).left (cur ++ (true ∷ [])) long-set to-left links.0 (known_set true) gas-set p
      below-lost (reached tl ml) p q = go (reach_from g n (view n t) ml (view n t s).right) refl q
        where
          go : (r : Reached) → reach_from g n (view n t) ml (view n t s).right ≡ r → join_right s (view n t s) tl r ≡ hurt → ReachDamaged (view n t) n
          go hurt a b =
              let l = spanned n t g (set marks s 1) (view n t s).left tl ml long-set p in
              let f = l.fewer in
              let c = gas-set in
              rec ml (view n t s).right (cur ++ (false ∷ [])) (l.as_long ∙ long-set) to-right links.1 (known_left ml tl l) (omega arith) a
          go (reached u mu) a b = absurd (not_hurt (node s (view n t s) tl u) mu (sym b))

  lost : (g : ℕ) → Lost g
  lost zero marks s cur long way nz known gas e = absurd (omega arith)
  lost (suc g) marks s cur long way nz known gas e = go (lost g) (reachable n (view n t) marks s) refl (is_leaf (view n t s)) refl
    where
      go : Lost g → (b : Bool) → reachable n (view n t) marks s ≡ b → (c : Bool) → is_leaf (view n t s) ≡ c → ReachDamaged (view n t) n
      go rec false ok c lf = lost-here marks s cur way nz known ok
      go rec true ok true lf = absurd (not_hurt _ _ (sym e ∙ reach-leaf n (view n t) marks s ok lf g))
      go rec true ok false lf = below-lost g rec marks s cur long way known gas ok lf _ refl (sym (reach-inner n (view n t) marks s ok lf g) ∙ e)

  -- FROM THE ENTRY
  abbrev start : List ℕ
  start = set (replicate n 0) 0 1

  start-known : Known start (true ∷ [])
  start-known x h =
      elim (mark_made (replicate n 0) 0 x h) [
        | inl e ↦ ([], sym e, tt)
        | inr k ↦ absurd (k (all_bare n x))
      ]
    where
      all_bare : (k x : ℕ) → get_or {A = ℕ} (replicate k 0) x 0 ≡ 0
      all_bare zero x = refl
      all_bare (suc k) zero = refl
      all_bare (suc k) (suc x) = all_bare k x

  -- damage of the entry itself
  entry-denies : Denies (well_formed n 0 (view n t 0) && in_tree (view n t 0)) ((¬ (WellFormed n 0 (view n t 0))) ⊎ (¬ ((view n t 0).state ≡ 1)))
  entry-denies = denies-both _ _ (denies-not _ (says_formed (view n t 0) n 0)) (denies-not _ (says_in_tree (view n t 0)))

  module _ (formed : WellFormed n 0 (view n t 0)) (state : (view n t 0).state ≡ 1) where
    entry : ((view n t 0).left ≢ 0) × ((view n t 0).left < n) × ((view n t 0).right ≡ 0)
    entry =
        elim formed.shape [
          | inl h ↦ (h.1.a_left_link.0, h.1.a_left_link.1, h.1.no_right_one)
          | inr h ↦ absurd (h.0 refl)
        ]

    some_slot : 0 < length {A = ℕ} (replicate n 0)
    some_slot = let a = entry.1 in let e = length-replicate {A = ℕ} n 0 in omega arith

    entry-lost : reach_from n n (view n t) start (view n t 0).left ≡ hurt → ReachDamaged (view n t) n
    entry-lost e =
        lost n start (view n t 0).left (true ∷ []) (length-set (replicate n 0) 0 1 ∙ length-replicate n 0) (entry.0, refl) entry.0 start-known
        gas e
      where
        gas : unmarked start < n
        gas =
            let a = unmarked-all n in
            let b = unmarked-set (replicate n 0) 0 some_slot bare-0 in omega arith
          where
            bare-0 : get_or {A = ℕ} (replicate n 0) 0 0 ≡ 0
            bare-0 = none n
              where
                none : (k : ℕ) → get_or {A = ℕ} (replicate k 0) 0 0 ≡ 0
                none zero = refl
                none (suc k) = refl

    -- what the entry reaches, where the way down ended well
    module _ (tr : Tree) (m : List ℕ) (sp : Spans n t start m (view n t 0).left tr) where
      not_back : (w : Way) (x : ℕ) → Goes (view n t) (view n t 0).left w x → ¬ (0 ≡ x)
      not_back w x g e = (mark_kept (replicate n 0) 0 x some_slot (sp.fresh w x g)).0 (sym e)

      all_sound : (w : Way) (x : ℕ) → Goes (view n t) 0 w x → WellFormed n x (view n t x) × ((view n t x).state ≡ 1)
      all_sound [] x g = rw (sym g) (formed, state)
      all_sound (true ∷ w) x g = sp.sound w x g.1
      all_sound (false ∷ w) x g = absurd (g.0 entry.2)

      all_once : (w u : Way) (x : ℕ) → Goes (view n t) 0 w x → Goes (view n t) 0 u x → w ≡ u
      all_once [] [] x g k = refl
      all_once [] (true ∷ u) x g k = absurd (not_back u x k.1 g)
      all_once (true ∷ w) [] x g k = absurd (not_back w x g.1 k)
      all_once (true ∷ w) (true ∷ u) x g k = ap (λ z. true ∷ z) (sp.once w u x g.1 k.1)
      all_once (false ∷ w) u x g k = absurd (g.0 entry.2)
      all_once [] (false ∷ u) x g k = absurd (k.0 entry.2)
      all_once (true ∷ w) (false ∷ u) x g k = absurd (k.0 entry.2)

      none-damaged : ¬ (ReachDamaged (view n t) n)
      none-damaged (not_well_formed w s g h) = h (all_sound w s g).0
      none-damaged (in_state_2 w s g h) = let e = (all_sound w s g).1 in omega arith
      none-damaged (reached-twice w u s d g k) = d (all_once w u s g k)

      entry-no_fare : Fare (view n t 0) → ⊥
      entry-no_fare f = entry.0 f.0.0

      fare-there : (w : Way) (x : ℕ) → Goes (view n t) 0 w x → Fare (view n t x) → Among (fare_slots tr) x
      fare-there [] x g f = absurd (entry-no_fare (rw (sym g) at f))
      fare-there (true ∷ w) x g f = sp.fare-there w x g.1 f
      fare-there (false ∷ w) x g f = absurd (g.0 entry.2)

      all_fares : Fares (view n t) (fare_slots tr)
      all_fares =
          record {
            each_is_one = λ x h. let f = sp.fare-in x h in (true ∷ f.0, (entry.0, f.1), f.2);
            each_is_there = fare-there;
            none-twice = sp.fare-once;
          }

  -- WHAT THE ENTRY REACHES: hurt exactly where it is damaged; otherwise its fares
  abbrev pub Verdict : Reached → Type 0
  Verdict hurt = ReachDamaged (view n t) n
  Verdict (reached tr m) = (¬ (ReachDamaged (view n t) n)) × Fares (view n t) (fare_slots tr)

  entry-hurt : (¬ (WellFormed n 0 (view n t 0))) ⊎ (¬ ((view n t 0).state ≡ 1)) → ReachDamaged (view n t) n
  entry-hurt (inl h) = not_well_formed [] 0 refl h
  entry-hurt (inr h) = not_in_tree 0 [] refl h

  pub verdict : Verdict (reach n (view n t))
  unfolding reach
  verdict =
      if_elim Verdict (not (well_formed n 0 (view n t 0) && in_tree (view n t 0))) (λ e. entry-hurt ((says_struck _ entry-denies).holds e))
      (λ e. down (unless _ (says_both _ _ (says_formed (view n t 0) n 0) (says_in_tree (view n t 0))) e) (reach_from n n (view n t) start (view n t 0).left) refl)
    where
      down :
          WellFormed n 0 (view n t 0) × ((view n t 0).state ≡ 1) → (r : Reached) → reach_from n n (view n t) start (view n t 0).left ≡ r → Verdict r
      down h hurt e = entry-lost h.0 h.1 e
      down h (reached tr m) e =
          let sp = spanned n t n start (view n t 0).left tr m (length-set (replicate n 0) 0 1 ∙ length-replicate n 0) e in
          (none-damaged h.0 h.1 tr m sp, all_fares h.0 h.1 tr m sp)

-- two lists of all fares are equally long
pub fares-length : (v : View) (fs gs : List ℕ) → Fares v fs → Fares v gs → length fs ≤ length gs
fares-length v fs gs f g =
    no_longer fs gs f.none-twice (λ a h. let w = f.each_is_one a h in g.each_is_there w.0 a w.1 w.2)
