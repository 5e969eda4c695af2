-- The account of a history and the state of the machine say the same of the tasks, and go on saying it.
use Prim.Native.Nat.{◌+◌, ◌<◌, ◌≤◌, suc, zero, ℕ}
use lib.Dec.{eqb}
use lib.ListN.{get_or, set}
use mathlib.Core.Bool.{Bool, false, true}
use mathlib.Core.List.{List, [], ◌∷◌}
use mathlib.Core.Logic.{◌⊎◌, inl, inr}
use mathlib.Core.Path.{◌∙◌, ◌≡◌, ap, ap₂, refl, sym}
use native.Mathlib.Nat.{add-zero}
use native.Mathlib.Omega.{arith}
use Rattle.demand2.proofs.After.{newly, task_after}
use Rattle.history.specs.Ledger.{Account, Commit, Open, begun, committed, ends, lost_one, one_unsettled, open_at, put, put_ins, put_stepped, shut, stepped, take, take_stepped, unsettled, with_open}
use Rattle.terms.specs.Answers.{number_of}
use Rattle.machine.specs.Choice.{if_b}
use Rattle.machine.specs.Commit.{Did, calm}
use Rattle.machine.specs.State.{one, task_at}
use Rattle.machine.specs.Step.{answered, turned}
use Rattle.machine.specs.Table.{View, Write}
use Rattle.steps.specs.Does.{Does, EndOf, Quiet, hurts, leaves, moves-on, put-commits, rests, settle-commits, settled, stops, take-commits, turn_of_put}
use Rattle.terms.specs.Task.{busy, goal_of, goal_settles, idle_task, work_settles}
use Rattle.terms.specs.declared.Goal.TheVariants.{Serve, Settle}
use Rattle.terms.specs.declared.Job.{Job}
use Rattle.terms.specs.declared.Operation.{Operation}
use Rattle.terms.specs.declared.Operation.TheVariants.{LookUp, PutIn, TakeOut}
use Rattle.terms.specs.declared.Phase.{Phase}
use Rattle.terms.specs.declared.Phase.TheVariants.{Start}
use Rattle.terms.specs.declared.State.{State}
use Rattle.terms.specs.declared.Task.{Task}
use Rattle.terms.specs.declared.Turn.{Turn}
use Rattle.terms.specs.declared.Work.{Work}
use Rattle.terms.specs.declared.Work.TheVariants.{Busy, Idle}
use Rattle.trees.specs.Tree.{Tree}

-- what the account knows of a task, and what the task does
abbrev pub Agree : Open → Work → Type 0
Agree shut Idle = Unit {0}
Agree shut (Busy j f) = ⊥
Agree (begun o j) Idle = ⊥
Agree (begun o j) (Busy j' f) = (j' ≡ j) × (goal_of f ≡ Serve o)
Agree unsettled Idle = ⊥
Agree unsettled (Busy j f) = goal_of f ≡ Settle

pub agree_settles : (o : Open) (w : Work) → Agree o w → one (work_settles w) ≡ one_unsettled o
agree_settles shut Idle g = refl
agree_settles shut (Busy j f) g = absurd g
agree_settles (begun o j) Idle g = absurd g
agree_settles (begun o j) (Busy j' f) g = ap (λ y. one (goal_settles y)) g.1
agree_settles unsettled Idle g = absurd g
agree_settles unsettled (Busy j f) g = ap (λ y. one (goal_settles y)) g

-- a place of a list stored as it was
set_same : {A : Type 0} (xs : List A) (i : ℕ) (d : A) → set xs i (get_or xs i d) ≡ xs
set_same [] i d = refl
set_same (x ∷ xs) zero d = refl
set_same (x ∷ xs) (suc i) d = ap (λ r. x ∷ r) (set_same xs i d)

-- what a step of task i books: the task's place in state and account, m and u
pub record Booked (st : State) (a : Account) (i : ℕ) (o : Open) (d : Did) (k : Task) (new : List Commit) : Type 0 where
  pub then : Open
  pub dm : ℕ
  pub du : ℕ
  pub state-is : turned st i d.turn d.committed ≡ record { tasks = set st.tasks i (task_after d.turn k); m = st.m + dm; u = st.u + du }
  pub account-is : stepped o a i (number_of (answered d.turn)) (work_settles (task_after d.turn k).work) ≡ record { tasks = set a.tasks i then; commits = new; lost = a.lost + du }
  pub agrees : Agree then (task_after d.turn k).work
  pub balance : one_unsettled then + du ≤ one_unsettled o + dm
  pub puts : put_ins new ≡ put_ins a.commits + dm
  pub limit : (dm ≡ 0) ⊎ ((dm ≡ 1) × (st.m < 1000000))

module _ (st : State) (a : Account) (i : ℕ) where
  -- the account as it was
  same-account : (o : Open) → open_at a i ≡ o → a ≡ record { tasks = set a.tasks i o; commits = a.commits; lost = a.lost + 0 }
  same-account o e = ap₂ (λ x y. record { tasks = x; commits = a.commits; lost = y }) (sym (ap (set a.tasks i) (sym e) ∙ set_same a.tasks i shut)) (sym (add-zero a.lost))

  same-state : (k : Task) → task_at st i ≡ k → st ≡ record { tasks = set st.tasks i k; m = st.m + 0; u = st.u + 0 }
  same-state k e = rw (add-zero st.m, add-zero st.u, ← e, set_same st.tasks i idle_task) refl

  -- an answer that ends nothing and is no commit: nothing is booked
  pub still_open_lem : (x : ℕ) → eqb x 3 ≡ false → eqb x 5 ≡ false → eqb x 6 ≡ false → ends x ≡ false → (o : Open) (w : Work) → Agree o w → stepped o a i x (work_settles w) ≡ a
  unfolding stepped put_stepped take_stepped if_b
  still_open_lem x e3 e5 e6 en shut w g = refl
  still_open_lem x e3 e5 e6 en (begun LookUp j) w g = rw en refl
  still_open_lem x e3 e5 e6 en (begun PutIn j) Idle g = absurd g
  still_open_lem x e3 e5 e6 en (begun PutIn j) (Busy j' f) g = rw (e3, g.1, en) refl
  still_open_lem x e3 e5 e6 en (begun TakeOut j) w g = rw (e5, en) refl
  still_open_lem x e3 e5 e6 en unsettled w g = rw (e3, e6) refl

  still-0 : (o : Open) (w : Work) → Agree o w → stepped o a i 0 (work_settles w) ≡ a
  unfolding ends
  still-0 = still_open_lem 0 refl refl refl refl

  still-17 : (o : Open) (w : Work) → Agree o w → stepped o a i 17 (work_settles w) ≡ a
  unfolding ends
  still-17 = still_open_lem 17 refl refl refl refl

  -- an operation ends without a commit
  ended : (o : Operation) (j : Job) (x : ℕ) → EndOf o x → stepped (begun o j) a i x false ≡ with_open a i shut
  unfolding stepped put_stepped take_stepped ends if_b
  ended LookUp j x (inl e) = rw e refl
  ended LookUp j x (inr e) = rw e refl
  ended PutIn j x (inl e) = rw e refl
  ended PutIn j x (inr (inl e)) = rw e refl
  ended PutIn j x (inr (inr e)) = rw e refl
  ended TakeOut j x (inl e) = rw e refl
  ended TakeOut j x (inr e) = rw e refl

  pub not_six : (o : Operation) (x : ℕ) → EndOf o x → one (eqb x 6) ≡ 0
  not_six LookUp x (inl e) = rw e refl
  not_six LookUp x (inr e) = rw e refl
  not_six PutIn x (inl e) = rw e refl
  not_six PutIn x (inr (inl e)) = rw e refl
  not_six PutIn x (inr (inr e)) = rw e refl
  not_six TakeOut x (inl e) = rw e refl
  not_six TakeOut x (inr e) = rw e refl

  -- commits
  put_3 : (j : Job) → stepped (begun PutIn j) a i 3 false ≡ committed a i (put j) shut
  unfolding stepped put_stepped if_b
  put_3 j = refl

  put-0 : (j : Job) → stepped (begun PutIn j) a i 0 true ≡ committed a i (put j) unsettled
  unfolding stepped put_stepped if_b
  put-0 j = refl

  take_5 : (j : Job) → stepped (begun TakeOut j) a i 5 false ≡ committed a i (take j) shut
  unfolding stepped take_stepped if_b
  take_5 j = refl

  settled-3 : stepped unsettled a i 3 false ≡ with_open a i shut
  unfolding stepped if_b
  settled-3 = refl

  left-6 : stepped unsettled a i 6 false ≡ lost_one a i
  unfolding stepped if_b
  left-6 = refl

  -- the open operation of a busy task, by its goal
  pub by_serve : (o : Open) (j : Job) (f : Phase) (op : Operation) → Agree o (Busy j f) → goal_of f ≡ Serve op → o ≡ begun op j
  by_serve shut j f op g e = absurd g
  by_serve (begun o' j') j f op g e = let q : Serve o' ≡ Serve op = sym g.1 ∙ e in let r : o' ≡ op = cc in ap₂ begun r (sym g.0)
  by_serve unsettled j f op g e = absurd (let q : Settle ≡ Serve op = sym g ∙ e in let z : ◌≡◌ {A = ℕ} 0 1 = cc in omega arith)

  pub by_settle : (o : Open) (j : Job) (f : Phase) → Agree o (Busy j f) → goal_of f ≡ Settle → o ≡ unsettled
  by_settle shut j f g e = absurd g
  by_settle (begun o' j') j f g e = absurd (let q : Serve o' ≡ Settle = sym g.1 ∙ e in let z : ◌≡◌ {A = ℕ} 0 1 = cc in omega arith)
  by_settle unsettled j f g e = refl

  module _ (o : Open) (j : Job) (f : Phase) (at_a : open_at a i ≡ o) (at-st : task_at st i ≡ busy j f) (g : Agree o (Busy j f)) where
    quiet-booked : (b : Turn) (v : View) (t : Tree) → Quiet v t j f b → Booked st a i o (calm b) (busy j f) a.commits
    quiet-booked _ v t hurts = record {
      then = o;
      dm = 0;
      du = 0;
      state-is = same-state (busy j f) at-st;
      account-is = still-17 o (Busy j f) g ∙ same-account o at_a;
      agrees = g;
      balance = omega arith;
      puts = omega arith;
      limit = inl refl;
    }
    quiet-booked _ v t (moves-on f' e ok mv) =
        let g' : Agree o (Busy j f') = same-goal o g e in
        record {
          then = o;
          dm = 0;
          du = 0;
          state-is = refl;
          account-is = still-0 o (Busy j f') g' ∙ same-account o at_a;
          agrees = g';
          balance = omega arith;
          puts = omega arith;
          limit = inl refl;
        }
      where
        same-goal : (o : Open) → Agree o (Busy j f) → goal_of f' ≡ goal_of f → Agree o (Busy j f')
        same-goal shut g e = g
        same-goal (begun o' j') g e = (g.0, e ∙ g.1)
        same-goal unsettled g e = e ∙ g
    quiet-booked _ v t (stops op x e n) =
        let is = by_serve o j f op g e in
        record {
          then = shut;
          dm = 0;
          du = 0;
          state-is = rw (not_six op (number_of x) n) refl;
          account-is = rw is (ended op j (number_of x) n ∙ rw (add-zero a.lost) refl);
          agrees = tt;
          balance = omega arith;
          puts = omega arith;
          limit = inl refl;
        }
    quiet-booked _ v t (settled e w l z) =
        let is = by_settle o j f g e in
        record {
          then = shut;
          dm = 0;
          du = 0;
          state-is = refl;
          account-is = rw is (settled-3 ∙ rw (add-zero a.lost) refl);
          agrees = tt;
          balance = omega arith;
          puts = omega arith;
          limit = inl refl;
        }
    quiet-booked _ v t (leaves e) =
        let is = by_settle o j f g e in
        record {
          then = shut;
          dm = 0;
          du = 1;
          state-is = refl;
          account-is = rw is left-6;
          agrees = tt;
          balance = rw is (omega arith);
          puts = omega arith;
          limit = inl refl;
        }

    put-booked : (b : Bool) (ws : List Write) → goal_of f ≡ Serve PutIn → st.m < 1000000
        → Booked st a i o (record { turn = turn_of_put j b; committed = true; writes = ws }) (busy j f) (put j ∷ a.commits)
    unfolding if_b
    put-booked true ws e lim =
        let is = by_serve o j f PutIn g e in
        record {
          then = unsettled;
          dm = 1;
          du = 0;
          state-is = refl;
          account-is = rw is (put-0 j ∙ rw (add-zero a.lost) refl);
          agrees = refl;
          balance = rw is (omega arith);
          puts = refl;
          limit = inr (refl, lim);
        }
    put-booked false ws e lim =
        let is = by_serve o j f PutIn g e in
        record {
          then = shut;
          dm = 1;
          du = 0;
          state-is = refl;
          account-is = rw is (put_3 j ∙ rw (add-zero a.lost) refl);
          agrees = tt;
          balance = omega arith;
          puts = refl;
          limit = inr (refl, lim);
        }

    -- EVERY step
    pub booked : {v : View} {t : Tree} {d : Did} (does : Does v t st.m j f d) → Booked st a i o d (busy j f) (newly does a.commits)
    booked {v = v} {t = t} (rests b q) = quiet-booked b v t q
    booked (put-commits b ws lim e ch) = put-booked b ws e lim
    booked (take-commits ws e ch) =
        let is = by_serve o j f TakeOut g e in
        record {
          then = shut;
          dm = 0;
          du = 0;
          state-is = refl;
          account-is = rw is (take_5 j ∙ rw (add-zero a.lost) refl);
          agrees = tt;
          balance = omega arith;
          puts = omega arith;
          limit = inl refl;
        }
    booked (settle-commits ws e ch) =
        let is = by_settle o j f g e in
        record {
          then = unsettled;
          dm = 0;
          du = 0;
          state-is = refl;
          account-is = still-0 o (Busy j (Start Settle)) (rw is refl) ∙ same-account o at_a ∙ ap (λ x. record { tasks = set a.tasks i x; commits = a.commits; lost = a.lost + 0 }) is;
          agrees = refl;
          balance = rw is (omega arith);
          puts = omega arith;
          limit = inl refl;
        }
