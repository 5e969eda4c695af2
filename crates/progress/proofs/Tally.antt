-- What a call counts is paid by the work left.
use Prim.Native.Nat.{◌*◌, ◌+◌, ◌≤◌, ℕ}
use borrow.Author.Tests.{eq-eqb, ne_eqb}
use mathlib.Core.Bool.{Bool, ◌&&◌, false, not, true}
use mathlib.Core.List.{List, [], ◌∷◌}
use mathlib.Core.Path.{◌∙◌, ◌≡◌, ap, refl, sym}
use native.Mathlib.Omega.{arith}
use Rattle.demand2.proofs.After.{task_after}
use Rattle.demand2.proofs.Counts.{stored_here}
use Rattle.demand2.proofs.Passes.{Looks, Passes, abandons, begins, looks, refused, resets, steps, tidies, tree_after, view_at}
use Rattle.demand2.proofs.Stands.{Stands}
use Rattle.history.specs.History.{Ask, abandon, begin, figures, list, reset, step, tidy}
use Rattle.history.specs.Ledger.{Account, Point}
use Rattle.terms.specs.Answers.{number_of}
use Rattle.machine.specs.Choice.{if_b}
use Rattle.machine.specs.Commit.{Did}
use Rattle.machine.specs.State.{one}
use Rattle.machine.specs.Step.{Left, same}
use Rattle.machine.specs.Table.{View, puts}
use Rattle.progress.proofs.Work.{put-work, settle-work, take_work, weight-not}
use Rattle.progress.specs.Tally.{Tally, differs, settles_at, tallied}
use Rattle.progress.specs.Work.{adds_to, work}
use Rattle.routes.proofs.Level.{lv-not_255}
use Rattle.steps.specs.Does.{Does, Quiet, moves-on, hurts, leaves, put-commits, rests, settle-commits, settled, stops, take-commits, turn_of_put}
use Rattle.terms.specs.Task.{busy, goal_of, goal_settles, idle_task, work_settles}
use Rattle.terms.specs.declared.Answer.{Answer}
use Rattle.terms.specs.declared.Job.{Job}
use Rattle.terms.specs.declared.Phase.{Phase}
use Rattle.terms.specs.declared.State.{State}
use Rattle.terms.specs.declared.Task.{Task}
use Rattle.terms.specs.declared.Turn.{Turn}
use Rattle.trees.specs.Tree.{Tree}

-- ---- one call

same-table : (t : List ℕ) → differs t t ≡ false
unfolding differs
same-table [] = refl
same-table (x ∷ xs) = rw (eq-eqb x x refl) (same-table xs)

-- what a step counts against the work
abbrev Counts : ℕ → ℕ → ℕ → ℕ → Type 0
Counts w w' a b = w' + a ≤ w + 28 * b

add-28 : (b : Bool) → adds_to b ≡ 28 * one b
add-28 true = omega arith
add-28 false = omega arith

one-le : (b : Bool) → one b ≤ 1
one-le true = omega arith
one-le false = omega arith

-- a step without writes, by what the task was and is
still-counts : (a b : Bool) → (b ≡ true → a ≡ true) → one (not a && b) ≡ 0
still-counts true b h = refl
still-counts false true h = absurd (let e = h refl in let z : ◌≡◌ {A = ℕ} 0 1 = cc in omega arith)
still-counts false false h = refl

never : {A : Type 0} → ◌≡◌ {A = Bool} false true → A
never e = absurd (let z : ◌≡◌ {A = ℕ} 0 1 = cc in omega arith)

quiet-settles : (v : View) (t : Tree) (j : Job) (f : Phase) (a : Turn) → Quiet v t j f a → work_settles (task_after a (busy j f)).work ≡ true → goal_settles (goal_of f) ≡ true
quiet-settles v t j f _ hurts e = e
quiet-settles v t j f _ (moves-on f' g ok mv) e = ap goal_settles (sym g) ∙ e
quiet-settles v t j f _ (stops o a g n) e = never e
quiet-settles v t j f _ (settled g w l n) e = never e
quiet-settles v t j f _ (leaves g) e = never e

put-settles : (j : Job) (b : Bool) (k : Task) → work_settles (task_after (turn_of_put j b) k).work ≡ b
unfolding if_b
put-settles j true k = refl
put-settles j false k = refl

-- the tally against the work, from a point where B was left
abbrev pub Fair : ℕ → Tally → Tree → Type 0
Fair B n t = n.settlings + work 255 t ≤ B + 28 * n.settling-puts

module _ {p : Point} (s : Stands p) where
  step_counts : {j : Job} {f : Phase} {d : Did} (does : Does (view_at s) s.tree p.state.m j f d)
      → Counts (work 255 s.tree) (work 255 (tree_after does)) (one (goal_settles (goal_of f) && differs p.table (puts p.table d.writes)))
      (one (not (goal_settles (goal_of f)) && work_settles (task_after d.turn (busy j f)).work))
  unfolding puts
  step_counts {j} {f} (rests a q) =
      rw (same-table p.table, still-counts (goal_settles (goal_of f)) _ (quiet-settles _ _ j f a q)) (none (goal_settles (goal_of f)))
    where
      none : (b : Bool) → work 255 s.tree + one (b && false) ≤ work 255 s.tree + 28 * 0
      none true = omega arith
      none false = omega arith
  step_counts {j} {f} (put-commits b ws lim g ch) =
      rw (g, put-settles j b (busy j f)) (omega (arith, put-work ch.act s.shape, ap adds_to ch.level, add-28 b))
  step_counts {j} {f} (take-commits ws g ch) = rw g (omega (arith, take_work ch.act s.shape))
  step_counts {j} {f} (settle-commits ws g ch) = rw g (omega (arith, settle-work ch.act s.shape, one-le (differs p.table (puts p.table ws))))

  kept-fair : (B : ℕ) (n : Tally) → Fair B n s.tree → (st' : State) (a : Bool) (i : ℕ) → a ≡ false → settles_at st' i ≡ settles_at p.state i
      → Fair B (record { settlings = n.settlings + one (settles_at p.state i && a); settling-puts = n.settling-puts + one (not (settles_at p.state i) && settles_at st' i) }) s.tree
  kept-fair B n h st' a i e g = rw (e, g) (none (settles_at p.state i))
    where
      none : (c : Bool) → Fair B (record { settlings = n.settlings + one (c && false); settling-puts = n.settling-puts + one (not c && c) }) s.tree
      none true = omega arith
      none false = omega arith

  -- a refusal, or a look
  refused-fair : (B : ℕ) (n : Tally) → Fair B n s.tree → (c : Ask) (x : Answer) → 10 ≤ number_of x → Fair B (tallied n p c (same p.table p.state x)) s.tree
  unfolding tallied if_b
  refused-fair B n h reset x g = rw (ne_eqb (number_of x) 0 (λ e. omega arith)) h
  refused-fair B n h (begin i o j) x g = h
  refused-fair B n h (step i) x g = kept-fair B n h p.state _ i (same-table p.table) refl
  refused-fair B n h (abandon i) x g = h
  refused-fair B n h tidy x g = h
  refused-fair B n h figures x g = h
  refused-fair B n h (list room) x g = h

  looks_fair : (B : ℕ) (n : Tally) → Fair B n s.tree → (c : Ask) (x : Answer) → Looks c → Fair B (tallied n p c (same p.table p.state x)) s.tree
  unfolding tallied
  looks_fair B n h reset x g = absurd g
  looks_fair B n h (begin i o j) x g = absurd g
  looks_fair B n h (step i) x g = absurd g
  looks_fair B n h (abandon i) x g = absurd g
  looks_fair B n h tidy x g = absurd g
  looks_fair B n h figures x g = h
  looks_fair B n h (list room) x g = h

  pub call_fair : (B : ℕ) (n : Tally) → Fair B n s.tree → {c : Ask} {l : Left} {a : Account} {t' : Tree} → Passes s c l a t' → Fair B (tallied n p c l) t'
  unfolding tallied if_b
  call_fair B n h {c} (refused x g) = refused-fair B n h c x g
  call_fair B n h {c} (looks x g) = looks_fair B n h c x g
  call_fair B n h resets = omega (arith, weight-not 255 255 (lv-not_255 255))
  call_fair B n h (begins i o j lt idle f) = h
  call_fair B n h (steps i j f d lt is e inside does b) =
      rw (is, stored_here p.state.tasks i (task_after d.turn (busy j f)) idle_task (omega (arith, s.eight)))
      (omega (arith, step_counts does))
  call_fair B n h (abandons i du x lt b e g) = h
  call_fair B n h (tidies e) = h
