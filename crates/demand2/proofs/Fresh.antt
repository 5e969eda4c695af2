-- After a reset, on any table of the right length and any state: the first tree, no fare, no task busy.
use Prim.Native.Nat.{◌*◌, ◌≤◌, ℕ}
use lib.ListN.{length, length-replicate, replicate}
use mathlib.Core.Bool.{true}
use mathlib.Core.List.{List, [], ◌∷◌}
use mathlib.Core.Logic.{inl, inr}
use mathlib.Core.Path.{◌∙◌, ◌≡◌, ap, refl, subst, sym}
use native.Mathlib.Omega.{arith}
use Rattle.demand2.proofs.Counts.{all_alike}
use Rattle.demand2.proofs.Lengths.{zeros-free}
use Rattle.demand2.proofs.Stands.{Stands}
use Rattle.fares.specs.Fares.{leaf_fares}
use Rattle.history.specs.Ledger.{opening, shut}
use Rattle.machine.specs.Calls.{empty_table, entry_rec, first_leaf, reset_of}
use Rattle.machine.specs.Choice.{if_b}
use Rattle.machine.specs.Record.{free_rec, top_number}
use Rattle.machine.specs.State.{count_open, fresh_state, settling}
use Rattle.machine.specs.Step.{same}
use Rattle.machine.specs.Table.{Write, fill, length_fits, view}
use Rattle.steps.specs.Trail.{TaskOk}
use Rattle.terms.specs.Task.{idle_task}
use Rattle.terms.specs.declared.Answer.TheVariants.{Accepted}
use Rattle.terms.specs.declared.State.{State}
use Rattle.trees.proofs.Held.{Carries}
use Rattle.trees.proofs.Plug.{ind-cases}
use Rattle.trees.specs.Tree.{Tree, leaf}
use Rattle.views.proofs.Law.{length_law, upd-hit, upd-miss, view-law}
use Rattle.views.specs.Update.{upd, upds}

module _ (l n : ℕ) (e : l ≡ n * 6) (least : 8 ≤ n) (most : n ≤ 4096) where
  zeros : List ℕ
  zeros = replicate l 0

  abbrev fresh-writes : List Write
  fresh-writes = fill 0 entry_rec ∷ fill 1 first_leaf ∷ []

  fresh-view : view n (empty_table l) ≡ upds (view n zeros) fresh-writes
  unfolding empty_table zeros
  fresh-view = view-law n zeros fresh-writes (length-replicate l 0 ∙ e) (omega arith, (omega arith, tt))

  pub at_entry : view n (empty_table l) 0 ≡ entry_rec
  at_entry = ap (λ w. w 0) fresh-view ∙ upd-miss (upd (view n zeros) (fill 0 entry_rec)) (fill 1 first_leaf) 0 (λ q. omega arith) ∙ upd-hit (view n zeros) (fill 0 entry_rec) 0 refl

  pub at_leaf_lem : view n (empty_table l) 1 ≡ first_leaf
  at_leaf_lem = ap (λ w. w 1) fresh-view ∙ upd-hit (upd (view n zeros) (fill 0 entry_rec)) (fill 1 first_leaf) 1 refl

  pub elsewhere : (x : ℕ) → (x ≡ 0 → ⊥) → (x ≡ 1 → ⊥) → view n (empty_table l) x ≡ free_rec
  unfolding zeros
  elsewhere x a b =
      ap (λ w. w x) fresh-view ∙ upd-miss (upd (view n zeros) (fill 0 entry_rec)) (fill 1 first_leaf) x b ∙ upd-miss (view n zeros) (fill 0 entry_rec) x a ∙ zeros-free n l x

  abbrev first : Tree
  first = leaf 1 top_number 0 255

  pub fresh-carries : Carries (view n (empty_table l)) first
  fresh-carries = record {
    entry = at_entry;
    holds = at_leaf_lem;
    ones = λ x. elim (ind-cases x 0) [
      | inl q ↦ rw (q.0, at_entry) refl
      | inr q ↦ (elim (ind-cases x 1) [
        | inl r ↦ rw (r.0, at_leaf_lem) refl
        | inr r ↦ rw (elsewhere x q.0 r.0) (omega (arith, q.1, r.1))
      ])
    ];
  }

  pub fresh-size : length (empty_table l) ≡ n * 6
  unfolding empty_table
  fresh-size = length_law n (replicate l 0) fresh-writes (length-replicate l 0 ∙ e)

  pub stands-fresh : Stands (record { table = empty_table l; state = fresh_state; account = opening })
  unfolding empty_table count_open settling leaf_fares if_b
  stands-fresh = record {
    n = n;
    size = fresh-size;
    least = least;
    most = most;
    tree = first;
    carries = fresh-carries;
    shape = record { ranked = tt; limit = omega arith; order = (omega arith, omega arith); marks = inl (refl, refl, refl) };
    held = refl;
    lawful = tt;
    eight = refl;
    eight-open = refl;
    ok = λ x. subst (TaskOk (view n (empty_table l)) first) (sym (all_alike 8 x idle_task)) tt;
    agree = λ x. rw (all_alike 8 x idle_task, all_alike 8 x shut) tt;
    m-is = refl;
    u-is = refl;
    limit = omega arith;
    few = omega arith;
  }

  pub fresh-tree : stands-fresh.tree ≡ leaf 1 top_number 0 255
  unfolding stands-fresh
  fresh-tree = refl

pub reset-is : (t : List ℕ) (st : State) → length_fits (length t) ≡ true → reset_of t st ≡ same (empty_table (length t)) fresh_state Accepted
unfolding reset_of if_b
reset-is t st e = rw e refl
