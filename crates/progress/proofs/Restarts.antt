-- A TASK STARTS ITS WALK AGAIN only if the table was changed since it left the entry.
use Prim.Native.Nat.{◌+◌, ◌<◌, ◌≤◌, suc, zero, ℕ}
use lib.ListN.{get_or, length, set}
use mathlib.Core.Bool.{Bool, false, true}
use mathlib.Core.List.{List, [], ◌∷◌}
use mathlib.Core.Logic.{◌⊎◌, inl, inr}
use mathlib.Core.Path.{◌∙◌, ◌≡◌, ap, refl, subst, sym}
use native.Mathlib.Omega.{arith}
use Rattle.demand2.proofs.After.{task_after}
use Rattle.demand2.proofs.Counts.{all_alike, stored_here, stored_other}
use Rattle.demand2.proofs.Demand2.{keeps}
use Rattle.demand2.proofs.Passes.{Passes, abandons, begins, looks, passing, refused, resets, steps, tidies, view_at}
use Rattle.demand2.proofs.Stands.{Stands}
use Rattle.demand3.proofs.Demand3.{rich}
use Rattle.history.specs.History.{Ask, left, step}
use Rattle.history.specs.Ledger.{Account, Point, advance, goes, history}
use Rattle.history.specs.Machine.{real}
use Rattle.machine.specs.Choice.{if_b}
use Rattle.machine.specs.State.{task_at}
use Rattle.machine.specs.Step.{Left}
use Rattle.progress.proofs.Cases.{Case, ended, hurt, next-case, onward, puts-now, settles_now, takes-now}
use Rattle.progress.proofs.Look.{same-sees, same-top, top_is}
use Rattle.progress.proofs.Onward.{same-sight}
use Rattle.progress.proofs.Sees.{Sees, after_walk}
use Rattle.progress.specs.Restarts.{NoRestart, NotBegin, Untouched, is_start, starts_at, starts_work}
use Rattle.progress.specs.Work.{work}
use Rattle.steps.specs.Does.{turn_of_put, walks}
use Rattle.terms.specs.Task.{busy, idle_task}
use Rattle.terms.specs.declared.Job.{Job}
use Rattle.terms.specs.declared.Phase.{Phase}
use Rattle.terms.specs.declared.Phase.TheVariants.{PuttingIn, Settling, Start, TakingOut, Walk}
use Rattle.terms.specs.declared.Task.{Task}
use Rattle.terms.specs.declared.Work.{Work}
use Rattle.terms.specs.declared.Work.TheVariants.{Busy, Idle}
use Rattle.trees.specs.Rank.{height, rank}
use Rattle.trees.specs.Tree.{Tree}
use Rattle.undamaged.proofs.Walks.{true_false}
use Rattle.views.proofs.Law.{in_or_out, inside, same_or}

-- task i is idle, or has left the entry and sees the table as it is
pub record Away {p : Point} (s : Stands p) (i : ℕ) (j : Job) (f : Phase) : Type 0 where
  pub left-entry : is_start f ≡ false
  pub d : ℕ
  pub sees : Sees (view_at s) s.tree f d

abbrev Calmly : {p : Point} → Stands p → ℕ → Work → Type 0
Calmly s i Idle = Unit {0}
Calmly s i (Busy j f) = Away s i j f

calmly-starts : {p : Point} (s : Stands p) (i : ℕ) (w : Work) → Calmly s i w → starts_work w ≡ false
calmly-starts s i Idle h = refl
calmly-starts s i (Busy j f) h = h.left-entry

-- at another point with the same table
calmly-same : {p p' : Point} (s : Stands p) (s' : Stands p') → p'.table ≡ p.table → (i : ℕ) (w : Work) → Calmly s i w → Calmly s' i w
calmly-same s s' e i Idle h = tt
calmly-same s s' e i (Busy j f) h = record { left-entry = h.left-entry; d = h.d; sees = same-sees s s' e f h.d h.sees }

-- its own step
own-step : {p : Point} (s : Stands p) → rank s.tree ≡ 255 → (i : ℕ) → i < 8 → (j : Job) (f : Phase) (d : ℕ) → (task_at p.state i).work ≡ Busy j f → Sees (view_at s) s.tree f d
    → (advance real p (step i)).table ≡ p.table → (walks f ≡ true) ⊎ (is_start f ≡ false) → (s' : Stands (advance real p (step i))) → Calmly s' i (task_at (advance real p (step i)).state i).work
unfolding if_b
own-step {p} s top i lt j f d is sees same w s' = go (next-case s top i lt j f is d sees)
  where
    go : Case s i j f d → Calmly s' i (task_at (advance real p (step i)).state i).work
    go (hurt h e k) =
        elim w [
          | inl y ↦ true_false (walks f) y h
          | inr y ↦ subst (Calmly s' i) (sym k) (record { left-entry = y; d = d; sees = same-sees s s' same f d sees })
        ]
    go (ended a q e k) = subst (Calmly s' i) (sym k) tt
    go (onward f' d' z st is' g' un se less o) = subst (Calmly s' i) (sym is') (record { left-entry = un; d = d'; sees = same-sees s s' same f' d' se })
    go (puts-now b h e k c o) = subst (Calmly s' i) (sym k) (put b c)
      where
        put : (b : Bool) → (b ≡ true → (advance real p (step i)).table ≡ p.table → ⊥) → Calmly s' i (task_after (turn_of_put j b) (busy j f)).work
        put true c = absurd (c refl same)
        put false c = tt
    go (takes-now h e k) = subst (Calmly s' i) (sym k) tt
    go (settles_now h e k l o) = absurd (omega (arith, l s', ap (work 255) (same-sight s s' same).0))

-- there are eight tasks
beyond : (ts : List Task) (i : ℕ) → length ts ≤ i → get_or ts i idle_task ≡ idle_task
beyond [] i h = refl
beyond (x ∷ ts) zero h = absurd (omega arith)
beyond (x ∷ ts) (suc i) h = beyond ts i (omega arith)

pub busy-below : {p : Point} (s : Stands p) (i : ℕ) (j : Job) (f : Phase) → (task_at p.state i).work ≡ Busy j f → i < 8
busy-below {p} s i j f is =
    elim (in_or_out i 8) [
      | inl h ↦ h
      | inr h ↦ absurd (
          let y : Idle ≡ Busy j f = sym (ap (λ (k : Task). k.work) (beyond p.state.tasks i (omega (arith, s.eight)))) ∙ is in
          let z : ◌≡◌ {A = ℕ} 0 1 = cc in
          omega arith
          )
    ]

-- what any call does to task i: nothing, it becomes idle, or this was its own step
pub data Touched {p : Point} (s : Stands p) (i : ℕ) (c : Ask) (l : Left) : Type 0 where
  untouched : (task_at l.state i).work ≡ (task_at p.state i).work → Touched s i c l
  idle_now : (task_at l.state i).work ≡ Idle → Touched s i c l
  stepped-now : (j : Job) (f : Phase) → i < 8 → (task_at p.state i).work ≡ Busy j f → c ≡ step i → Touched s i c l

touched : {p : Point} (s : Stands p) (i : ℕ) {c : Ask} {l : Left} {a : Account} {t' : Tree} → Passes s c l a t' → NotBegin i c l → Touched s i c l
touched s i (refused x h) nb = untouched refl
touched s i (looks x h) nb = untouched refl
touched s i resets nb = idle_now (ap (λ (k : Task). k.work) (all_alike 8 i idle_task))
touched {p} s i (begins k o j lt idle f) nb = untouched (ap (λ (k : Task). k.work) (stored_other p.state.tasks k i _ idle_task (λ e. nb (sym e) refl)))
touched {p} s i (steps k j f d lt is e inside does b) nb =
    elim (same_or i k) [
      | inl q ↦ stepped-now j f (omega arith) (subst (λ y. (task_at p.state y).work ≡ Busy j f) (sym q) is) (ap step (sym q))
      | inr q ↦ untouched (ap (λ (k : Task). k.work) (stored_other p.state.tasks k i _ idle_task q))
    ]
touched {p} s i (abandons k du x lt b e h) nb =
    elim (same_or i k) [
      | inl q ↦ idle_now (subst (λ y. (task_at (record { tasks = set p.state.tasks k idle_task; m = p.state.m; u = p.state.u + du }) y).work ≡ Idle) (sym q)
          (ap (λ (k : Task). k.work) (stored_here p.state.tasks k idle_task idle_task (omega (arith, s.eight)))))
      | inr q ↦ untouched (ap (λ (k : Task). k.work) (stored_other p.state.tasks k i idle_task idle_task q))
    ]
touched s i (tidies e) nb = untouched refl

one-call : {p : Point} (s : Stands p) → rank s.tree ≡ 255 → (i : ℕ) → Calmly s i (task_at p.state i).work → (c : Ask) → NotBegin i c (left real p.table p.state c) → (advance real p c).table ≡ p.table
    → (s' : Stands (advance real p c)) → Calmly s' i (task_at (advance real p c).state i).work
unfolding advance
one-call {p} s top i h c nb same s' = go (touched s i (passing s c).passes nb)
  where
    own : (j : Job) (f : Phase) → i < 8 → (task_at p.state i).work ≡ Busy j f → (c : Ask) → c ≡ step i → (advance real p c).table ≡ p.table → (s' : Stands (advance real p c))
        → Calmly s' i (task_at (advance real p c).state i).work
    own j f lt is c e =
        let a = subst (Calmly s i) is h in
        subst (λ c. (advance real p c).table ≡ p.table → (s' : Stands (advance real p c)) → Calmly s' i (task_at (advance real p c).state i).work) (sym e)
        (λ same s'. own-step s top i lt j f a.d is a.sees same (inr a.left-entry) s')

    go : Touched s i c (left real p.table p.state c) → Calmly s' i (task_at (advance real p c).state i).work
    go (untouched e) = subst (Calmly s' i) (sym e) (calmly-same s s' same i (task_at p.state i).work h)
    go (idle_now e) = subst (Calmly s' i) (sym e) tt
    go (stepped-now j f lt is e) = own j f lt is c e same s'

all_calls : (i : ℕ) (cs : List Ask) {p : Point} (s : Stands p) → rank s.tree ≡ 255 → Calmly s i (task_at p.state i).work → Untouched real i p cs → starts_at (goes real p cs) i ≡ false
unfolding goes
all_calls i [] {p} s top h u = calmly-starts s i (task_at p.state i).work h
all_calls i (c ∷ cs) {p} s top h u =
    let s' = keeps s c in
    all_calls i cs s' (same-top s s' u.1 top) (one-call s top i h c u.0 u.1 s') u.2

-- a task that is about to walk is busy, and there are eight
first-call : {p : Point} (s : Stands p) → rank s.tree ≡ 255 → (i : ℕ) (w : Work) → (task_at p.state i).work ≡ w → starts_work w ≡ true → (advance real p (step i)).table ≡ p.table
    → (s' : Stands (advance real p (step i))) → Calmly s' i (task_at (advance real p (step i)).state i).work
first-call s top i Idle is e same s' = absurd (let z : ◌≡◌ {A = ℕ} 0 1 = cc in omega arith)
first-call {p} s top i (Busy j (Start g)) is e same s' =
    own-step s top i (busy-below s i j (Start g) is) j (Start g) (suc (height s.tree) + after_walk g) is refl same (inl refl) s'
first-call s top i (Busy j (Walk g q)) is e same s' = absurd (let z : ◌≡◌ {A = ℕ} 0 1 = cc in omega arith)
first-call s top i (Busy j (PuttingIn q x)) is e same s' = absurd (let z : ◌≡◌ {A = ℕ} 0 1 = cc in omega arith)
first-call s top i (Busy j (TakingOut q x)) is e same s' = absurd (let z : ◌≡◌ {A = ℕ} 0 1 = cc in omega arith)
first-call s top i (Busy j (Settling q x)) is e same s' = absurd (let z : ◌≡◌ {A = ℕ} 0 1 = cc in omega arith)

-- THE THEOREM
pub no-restart : NoRestart real
unfolding goes
no-restart t st cs n e least most i starts ds u =
    let r = rich t st cs n e least most in
    let s = r.stands in
    let s' = keeps s (step i) in
    all_calls i ds s' (same-top s s' u.1 (top_is r)) (first-call s (top_is r) i (task_at (history real t st cs).state i).work refl starts u.1 s') u.2
