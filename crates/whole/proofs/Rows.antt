-- One law for each exit that knows what the entry reaches.
use mathlib.Core.Path.{◌≡◌, refl, ◌∙◌}
use mathlib.Core.Bool.{true}
use mathlib.Core.List.{List, ◌++◌}
use Prim.Native.Nat.{ℕ, ◌+◌, ◌-◌, ◌*◌, ◌/◌, ◌<◌, ◌≤◌}
use native.Mathlib.Nat.{zero-add}
use native.Mathlib.Omega.{arith}
use borrow.Author.Tests.{le-ltb, lt-ltb}
use lib.ListN.{length, drop}
use lib.Seq.{sets, sets-eq}
use Rattle.std.specs.Prelude.{Ok, Err, Some, None}
use Rattle.std.specs.declared.option.Option.{Option}
use Rattle.std.specs.declared.result.Result.{Result}
use Rattle.std.specs.Option.{ok_or}
use Rattle.terms.specs.declared.Rec.{Rec}
use Rattle.terms.specs.declared.State.{State}
use Rattle.terms.specs.declared.Figures.{Figures}
use Rattle.terms.specs.declared.Refusal.{Refusal}
use Rattle.terms.specs.declared.Refusal.TheVariants.{Damaged, NoRoom}
use Rattle.machine.specs.Choice.{if_b}
use Rattle.machine.specs.State.{sound}
use Rattle.machine.specs.Table.{View, view, length_fits}
use Rattle.machine.specs.Reach.{Tree, Reached, hurt, reached, reach, count_fares, fare_list}
use Rattle.machine.specs.Calls.{figures_reached, figures_of, list_reached, list_of}
use Rattle.reach.specs.declared.Below.{Below}
use Rattle.reach.specs.Tree.{size, tree_from}
use Rattle.reach.specs.Down.{Tells, All}
use Rattle.reach.proofs.Lines.{list_length}
use Rattle.reach.proofs.Grown.{Grown, all_grown}
use Rattle.whole.specs.Whole.{Found, figures_out, reported, answered, listed}

pub found_by : (v : View) (n : ℕ) (o : Option Below) (m : List ℕ) → All v n o m → (r : Result Below Refusal) → r ≡ ok_or o Damaged → Found v n r
found_by v n None m a r e = rw e (refl, a)
found_by v n (Some b) m a r e = rw e (m, a)

module _ (t : List ℕ) (st : State) (n : ℕ) (fits : length_fits (length t) ≡ true) (en : n ≡ length t / 6) (s : sound st ≡ true) where
  figures-are : figures_of t st ≡ figures_reached t st (reach n (view n t))
  unfolding figures_of if_b
  figures-are = simp (fits, s, ← en)

  pub figures-hurt : (e : Refusal) → Found (view n t) n (Err e) → (r : Result Figures Refusal) → r ≡ Err e → reported r ≡ figures_of t st
  unfolding figures_reached
  figures-hurt e h r er = rw (er, figures-are, h.0, h.1) refl

  told-figures :
      (x : Reached) (b : Below) (m : List ℕ) (k : ℕ) → Tells (view n t 0) k b m x → reported (Ok (figures_out (view n t) n st b)) ≡ figures_reached t st x
  unfolding figures_out figures_reached
  told-figures hurt b m k e = absurd e
  told-figures (reached u j) b m k e = rw (e.height, e.level, e.fares, en) refl

  pub figures-found :
      (b : Below) → Found (view n t) n (Ok b) → (f : Figures) → f ≡ figures_out (view n t) n st b → reported (Ok f) ≡ figures_of t st
  figures-found b h f e = rw (figures-are, e) (told-figures (reach n (view n t)) b h.0 (n - 1) h.1.1)

  module _ (room : List ℕ) where
    list-is : list_of t st room ≡ list_reached room (reach n (view n t))
    unfolding list_of if_b
    list-is = simp (fits, s, ← en)

    pub list-hurt :
        (e : Refusal) → Found (view n t) n (Err e) → (r : Result (Unit {0}) Refusal) → r ≡ Err e → listed (answered r) room ≡ list_of t st room
    unfolding listed list_reached
    list-hurt e h r er = rw (er, list-is, h.0, h.1) refl

    -- the tree that hangs below the entry, as far as it is told of
    hangs :
        (x : Reached) (b : Below) (m : List ℕ) (k : ℕ) (w : Tree) → Tells (view n t 0) k b m x → Grown w x → (size w ≤ k) × (b.fares ≡ count_fares w)
    hangs hurt b m k w e g = absurd e
    hangs (reached u j) b m k w e g = rw (← g) (omega (arith, e.used), e.fares)

    -- the lines of a tree from the first place on
    whole_room : (w : Tree) → 2 * count_fares w ≤ length room → sets room 0 (fare_list w) ≡ fare_list w ++ drop (length (fare_list w)) room
    whole_room w h = sets-eq (fare_list w) room 0 (omega (arith, list_length w)) ∙ rw (zero-add (length (fare_list w))) refl

    told-short :
        (x : Reached) (b : Below) (m : List ℕ) (k : ℕ) → Tells (view n t 0) k b m x → length room < 2 * b.fares → listed (answered (Err NoRoom)) room ≡ list_reached room x
    unfolding listed list_reached if_b
    told-short hurt b m k e l = absurd e
    told-short (reached u j) b m k e l = simp (← e.fares, lt-ltb _ _ l)

    told-lines :
        (x : Reached) (b : Below) (m : List ℕ) (k : ℕ) (w : Tree) → Tells (view n t 0) k b m x → Grown w x → 2 * b.fares ≤ length room
        → (later : List ℕ) → later ≡ sets room 0 (fare_list w) → listed (answered (Ok tt)) later ≡ list_reached room x
    unfolding listed list_reached if_b
    told-lines hurt b m k w e g l later el = absurd e
    told-lines (reached u j) b m k w e g l later el =
        let r : later ≡ fare_list u ++ drop (length (fare_list u)) room = el ∙ rw (← g) (whole_room u (omega (arith, e.fares))) in
        simp (← e.fares, le-ltb _ _ l, r)

    module _ (b : Below) (f : Found (view n t) n (Ok b)) where
      pub list-short : length room < 2 * b.fares → listed (answered (Err NoRoom)) room ≡ list_of t st room
      list-short l = rw list-is (told-short (reach n (view n t)) b f.0 (n - 1) f.1.1 l)

      module _ (l : 2 * b.fares ≤ length room) (r : Rec) (er : r ≡ view n t 0) where
        hanging : (size (tree_from n (view n t) r.left) ≤ n - 1) × (b.fares ≡ count_fares (tree_from n (view n t) r.left))
        hanging = rw er (hangs (reach n (view n t)) b f.0 (n - 1) _ f.1.1 (all_grown n (view n t)))

        pub list-tree : size (tree_from n (view n t) r.left) ≤ n
        list-tree = omega (arith, hanging.0)

        pub list-room : 0 + 2 * count_fares (tree_from n (view n t) r.left) ≤ length room
        list-room = omega (arith, hanging.1)

        pub list-found :
            (later : List ℕ) → later ≡ sets room 0 (fare_list (tree_from n (view n t) r.left)) → listed (answered (Ok tt)) later ≡ list_of t st room
        list-found later el =
            rw list-is
            (told-lines (reach n (view n t)) b f.0 (n - 1) (tree_from n (view n t) (view n t 0).left) f.1.1 (all_grown n (view n t)) l later (rw er at el))
