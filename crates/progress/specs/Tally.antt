-- THE SETTLING COMMITS of a history, counted off what a caller sees: the calls, the table before and after each, and which tasks settle.
use Rattle.std.specs.Prelude.{◌*◌, ◌+◌, ◌≤◌, ℕ, eqb, length, Bool, ◌&&◌, ◌||◌, false, not, true, List, [], ◌∷◌, ◌≡◌}
use Rattle.demand3.specs.Demand3.{c_at}
use Rattle.history.specs.History.{Ask, abandon, begin, figures, left, list, reset, step, tidy}
use Rattle.history.specs.Ledger.{Point, advance, history, started}
use Rattle.history.specs.Machine.{Machine}
use Rattle.terms.specs.Answers.{number_of}
use Rattle.machine.specs.Choice.{if_b}
use Rattle.machine.specs.State.{one, task_at}
use Rattle.machine.specs.Step.{Left}
use Rattle.terms.specs.Task.{work_settles}
use Rattle.terms.specs.declared.State.{State}

-- two tables differ
unfoldable pub differs : List ℕ → List ℕ → Bool
differs [] [] = false
differs [] (y ∷ ys) = true
differs (x ∷ xs) [] = true
differs (x ∷ xs) (y ∷ ys) = not (eqb x y) || differs xs ys

-- task i settles
abbrev pub settles_at : State → ℕ → Bool
settles_at st i = work_settles (task_at st i).work

-- since the reset: settling commits, and put-ins that left their task settling
pub record Tally : Type 0 where
  pub settlings : ℕ
  pub settling-puts : ℕ

abbrev pub no_tally : Tally
no_tally = record { settlings = 0; settling-puts = 0 }

-- a step of a task that settles changes the table only by a settling commit, and each of those does, since z is taken off; a put-in that goes on to settle leaves its task settling
unfoldable pub tallied : Tally → Point → Ask → Left → Tally
tallied n p reset l = if_b (eqb (number_of l.answer) 0) no_tally n
tallied n p (begin i o j) l = n
tallied n p (step i) l =
    record {
      settlings = n.settlings + one (settles_at p.state i && differs p.table l.table);
      settling-puts = n.settling-puts + one (not (settles_at p.state i) && settles_at l.state i);
    }
tallied n p (abandon i) l = n
tallied n p tidy l = n
tallied n p figures l = n
tallied n p (list room) l = n

-- of calls made from a point on
unfoldable pub tally_from : Machine → Point → Tally → List Ask → Tally
tally_from M p n [] = n
tally_from M p n (c ∷ cs) = tally_from M (advance M p c) (tallied n p c (left M p.table p.state c)) cs

abbrev pub tally_of : Machine → List ℕ → State → List Ask → Tally
tally_of M t st cs = tally_from M (started M t st) no_tally cs

-- AT MOST 28 settling commits for each put-in that settled, on every history; and from any point on, whatever calls follow, at most 28 for each put-in that had not
-- ended as settled there, which are c, and for each put-in that settles in these calls
pub record FewSettlings (M : Machine) : Type 0 where
  pub ever : (t : List ℕ) (st : State) (cs : List Ask) (n : ℕ) → length t ≡ 6 * n → 8 ≤ n → n ≤ 4096 → (tally_of M t st cs).settlings ≤ 28 * (tally_of M t st cs).settling-puts
  pub since : (t : List ℕ) (st : State) (cs ds : List Ask) (n : ℕ) → length t ≡ 6 * n → 8 ≤ n → n ≤ 4096
      → (tally_from M (history M t st cs) no_tally ds).settlings ≤ 28 * (c_at (history M t st cs) + (tally_from M (history M t st cs) no_tally ds).settling-puts)
