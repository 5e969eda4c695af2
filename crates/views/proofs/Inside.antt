-- Whatever the table holds, a step writes only to slots of the table.
use mathlib.Core.Path.{◌≡◌}
use mathlib.Core.Bool.{Bool, true, false, not, ◌&&◌}
use mathlib.Core.List.{List}
use Prim.Native.Nat.{ℕ, zero, suc, ◌+◌, ◌-◌, ◌≤◌, ◌<◌}
use native.Mathlib.Omega.{arith}
use lib.Dec.{eqb}
use borrow.Author.Tests.{leb-false, not-false, eqb-true}
use Rattle.terms.specs.declared.Rec.{Rec}
use Rattle.terms.specs.declared.Links.{Links}
use Rattle.terms.specs.declared.Path.{Path}
use Rattle.terms.specs.declared.Job.{Job}
use Rattle.terms.specs.declared.Around.{Around}
use Rattle.terms.specs.declared.Task.{Task}
use Rattle.terms.specs.declared.Phase.{Phase}
use Rattle.terms.specs.declared.Phase.TheVariants.{Start, Walk, PuttingIn, TakingOut, Settling}
use Rattle.terms.specs.declared.PutStage.{PutStage}
use Rattle.terms.specs.declared.PutStage.TheVariants.{PutParent, PutLeaf, PutCommit}
use Rattle.terms.specs.declared.TakeStage.{TakeStage}
use Rattle.terms.specs.declared.TakeStage.TheVariants.{TakeGrand, TakeParent, TakeLeft, TakeRight, TakeCommit}
use Rattle.terms.specs.declared.SettleStage.{SettleStage}
use Rattle.terms.specs.declared.SettleStage.TheVariants.{SettleGrand, SettleParent, SettleChoose, SettleRotate, SettleDouble}
use Rattle.terms.specs.declared.ParentRow.{ParentRow}
use Rattle.terms.specs.declared.ParentRow.TheVariants.{Outranked, Promote, Wider}
use Rattle.terms.specs.declared.LevelRow.{LevelRow}
use Rattle.terms.specs.declared.LevelRow.TheVariants.{NoRow, RotateOne, RotateTwo, DoubleRotation}
use Rattle.machine.specs.Choice.{if_b}
use Rattle.machine.specs.Record.{well_formed, linked, leads, other}
use Rattle.machine.specs.Table.{View, view, free_from, free, slot1, slot2, slot3}
use Rattle.machine.specs.Commit.{Did, commit_if}
use Rattle.machine.specs.PutIn.{put_grounds, put_writes, put_room, put_limit, put_commit, put_step}
use Rattle.machine.specs.TakeOut.{take_apart, take_leaf, take_grounds, take_room, take_commit, take_step}
use Rattle.machine.specs.Rows.{around_of, rotate_writes, double_writes}
use Rattle.machine.specs.Settling.{grounds_two, grounds_three, grounds_four, promote_do, rotate_do, rotate_two_do, double_do, rotate_by, double_by, promote_by, commit_two, commit_three, commit_four, choose_formed, turn_formed, choose_by, choose_step, rotate_on, rotate_turn, rotate_first, rotate_step, double_turn, double_first, double_step, settle_step}
use Rattle.machine.specs.Step.{phase_step}
use Rattle.machine.proofs.Choice.{if_elim}
use Rattle.machine.proofs.Tests.{both_first, both-second, either_way, formed-in, linked-in}
use Rattle.views.specs.Update.{Within}

-- all that a step writes is inside the table
abbrev pub Inside : ℕ → Did → Type 0
Inside n d = Within n d.writes

later : (v : View) (d s : ℕ) → s ≤ free_from v d s
unfolding free_from
later v zero s = omega arith
later v (suc d) s = go (eqb (v s).state 0) (later v d (s + 1))
  where
    go : (b : Bool) → s + 1 ≤ free_from v d (s + 1) → s ≤ elim b [ true ↦ s | false ↦ free_from v d (s + 1) ]
    go true e = omega arith
    go false e = omega arith

-- the slots that new records take rise
pub first-second : (v : View) (n : ℕ) → slot1 v n < slot2 v n
unfolding slot2 free
first-second v n = omega (arith, later v (n - (slot1 v n + 1)) (slot1 v n + 1))

pub second-third : (v : View) (n : ℕ) → slot2 v n < slot3 v n
unfolding slot3 free
second-third v n = omega (arith, later v (n - (slot2 v n + 1)) (slot2 v n + 1))

-- a commit writes only where its grounds hold
commit-in : (n : ℕ) (k : Task) (g t : Bool) (change : Did) → (g ≡ true → Inside n change) → Inside n (commit_if k g t change)
unfolding commit_if
commit-in n k g t change h =
    if_elim (Inside n) (not g) (λ e. tt) (λ e. if_elim (Inside n) (not t) (λ f. tt) (λ f. h (not-false g e)))

-- put-in
module _ (n : ℕ) (v : View) (j : Job) (q : Path) (e : Bool) (p h : Rec) (pi : q.parent < n) (hi : q.here < n) where
  put-writes_in : (x y z : ℕ) → x < n → y < n → z < n → Within n (put_writes j q e h x y z)
  unfolding put_writes
  put-writes_in x y z a b c = if_elim (Within n) _ (λ r. (a, (b, (c, (hi, (pi, tt)))))) (λ r. (a, (b, (c, (hi, (pi, tt))))))

  put-room_in : Inside n (put_room v n j q e p h)
  unfolding put_room
  put-room_in =
      if_elim (Inside n) _ (λ r. tt)
      (λ r.
      let c : slot3 v n < n = leb-false n _ r in
      let b : slot2 v n < n = omega (arith, second-third v n) in
      put-writes_in _ _ _ (omega (arith, first-second v n)) b c)

  put-limit_in : (m : ℕ) → Inside n (put_limit v n m j q e p h)
  unfolding put_limit
  put-limit_in m = if_elim (Inside n) _ (λ r. tt) (λ r. put-room_in)

module _ (n : ℕ) (t : List ℕ) where
  put-commit_in : (m : ℕ) (j : Job) (q : Path) (a b : Links) → Inside n (put_commit (view n t) n m j q a b)
  unfolding put_commit put_grounds
  put-commit_in m j q a b =
      let p = well_formed n q.parent (view n t q.parent) in
      let h = linked n q.here (view n t q.here) in
      commit-in n _ _ _ _
      (λ g.
      put-limit_in n (view n t) j q _ _ _ (formed-in n t q.parent (both_first p _ g)) (linked-in n t q.here (both_first h _ (both-second p _ g))) m)

  put_in : (m : ℕ) (j : Job) (q : Path) (s : PutStage) → Inside n (put_step (view n t) n m j q s)
  unfolding put_step
  put_in m j q PutParent = tt
  put_in m j q (PutLeaf a) = tt
  put_in m j q (PutCommit a b) = put-commit_in m j q a b

  -- take-out
  module _ (j : Job) (q : Path) (a b : Links) (g : take_grounds n j q a b (view n t q.grand) (view n t q.parent) (view n t b.left) (view n t b.right) ≡ true) where
    rest-1 : (well_formed n q.parent (view n t q.parent) && (linked n b.left (view n t b.left) && (linked n b.right (view n t b.right)
        && (take_apart q b && (leads a q.parent && (leads b q.here && take_leaf j (if_b (eqb b.left q.here) (view n t b.left) (view n t b.right)))))))) ≡ true
    unfolding take_grounds
    rest-1 = both-second (well_formed n q.grand (view n t q.grand)) _ g

    rest-2 : (linked n b.left (view n t b.left) && (linked n b.right (view n t b.right)
        && (take_apart q b && (leads a q.parent && (leads b q.here && take_leaf j (if_b (eqb b.left q.here) (view n t b.left) (view n t b.right))))))) ≡ true
    rest-2 = both-second (well_formed n q.parent (view n t q.parent)) _ rest-1

    rest-3 : (linked n b.right (view n t b.right)
        && (take_apart q b && (leads a q.parent && (leads b q.here && take_leaf j (if_b (eqb b.left q.here) (view n t b.left) (view n t b.right)))))) ≡ true
    rest-3 = both-second (linked n b.left (view n t b.left)) _ rest-2

    take_grand : q.grand < n
    unfolding take_grounds
    take_grand = formed-in n t q.grand (both_first (well_formed n q.grand (view n t q.grand)) _ g)

    take_parent : q.parent < n
    take_parent = formed-in n t q.parent (both_first (well_formed n q.parent (view n t q.parent)) _ rest-1)

    take_left_lem : b.left < n
    take_left_lem = linked-in n t b.left (both_first (linked n b.left (view n t b.left)) _ rest-2)

    take_right : b.right < n
    take_right = linked-in n t b.right (both_first (linked n b.right (view n t b.right)) _ rest-3)

    take_here : q.here < n
    unfolding leads
    take_here =
        either_way (eqb b.left q.here) (eqb b.right q.here) (q.here < n)
        (λ y. let z : b.left ≡ q.here = eqb-true _ _ y in omega (arith, take_left_lem))
        (λ y. let z : b.right ≡ q.here = eqb-true _ _ y in omega (arith, take_right))
        (both-second (not (eqb q.here 0)) _
        (both_first (leads b q.here) _
        (both-second (leads a q.parent) _ (both-second (take_apart q b) _ (both-second (linked n b.right (view n t b.right)) _ rest-3)))))

    take_other : other b q.here < n
    unfolding other
    take_other = if_elim (λ k. k < n) (eqb b.left q.here) (λ y. take_right) (λ y. take_left_lem)

  take_commit_in : (j : Job) (q : Path) (a b c d : Links) → Inside n (take_commit (view n t) n j q a b c d)
  unfolding take_commit take_room
  take_commit_in j q a b c d =
      commit-in n _ _ _ _
      (λ g.
      if_elim (Inside n) _ (λ r. tt)
      (λ r. (leb-false n _ r, (take_parent j q a b g, (take_here j q a b g, (take_other j q a b g, (take_grand j q a b g, tt)))))))

  take_in : (j : Job) (q : Path) (s : TakeStage) → Inside n (take_step (view n t) n j q s)
  unfolding take_step
  take_in j q TakeGrand = tt
  take_in j q (TakeParent a) = tt
  take_in j q (TakeLeft a b) = tt
  take_in j q (TakeRight a b c) = tt
  take_in j q (TakeCommit a b c d) = take_commit_in j q a b c d

-- settling: the changes
module _ (n : ℕ) (v : View) (j : Job) (q : Path) (gi : q.grand < n) (pi : q.parent < n) where
  promote-do_in : (e : Bool) (b : Links) (z : Rec) → Inside n (promote_do v n j q e b z)
  unfolding promote_do
  promote-do_in e b z =
      if_elim (Inside n) _ (λ r. tt) (λ r. if_elim (Inside n) _ (λ s. tt) (λ s. (leb-false n _ s, (pi, (gi, tt)))))

  promote-by_in : (row : ParentRow) (a b : Links) (z : Rec) → Inside n (promote_by row v n j q a b z)
  unfolding promote_by
  promote-by_in Outranked a b z = tt
  promote-by_in Promote a b z = promote-do_in _ b z
  promote-by_in Wider a b z = tt

  module _ (o : Around) (z x : Rec) (hi : q.here < n) where
    rotate-do_in : (rx rz : ℕ) → Inside n (rotate_do v n j q o z x rx rz)
    unfolding rotate_do rotate_writes
    rotate-do_in rx rz =
        if_elim (Inside n) _ (λ r. tt)
        (λ r.
        let b : slot2 v n < n = leb-false n _ r in
        let a : slot1 v n < n = omega (arith, first-second v n) in
        (a, (b, (pi, (hi, (gi, tt))))))

    rotate-by_in : (row : LevelRow) → Inside n (rotate_by row v n j q o z x)
    unfolding rotate_by rotate_two_do
    rotate-by_in NoRow = tt
    rotate-by_in RotateOne = rotate-do_in _ _
    rotate-by_in RotateTwo = if_elim (Inside n) _ (λ r. tt) (λ r. rotate-do_in _ _)
    rotate-by_in DoubleRotation = tt

    double-by_in : (d : Links) (y : Rec) → o.y < n → (row : LevelRow) → Inside n (double_by row v n j q o d z x y)
    unfolding double_by double_do double_writes
    double-by_in d y yi NoRow = tt
    double-by_in d y yi RotateOne = rotate-by_in RotateOne
    double-by_in d y yi RotateTwo = rotate-by_in RotateTwo
    double-by_in d y yi DoubleRotation =
        if_elim (Inside n) _ (λ r. tt)
        (λ r.
        let c : slot3 v n < n = leb-false n _ r in
        let b : slot2 v n < n = omega (arith, second-third v n) in
        let a : slot1 v n < n = omega (arith, first-second v n) in
        if_elim (Within n) _ (λ s. (a, (b, (c, (pi, (hi, (yi, (gi, tt)))))))) (λ s. (a, (b, (c, (pi, (hi, (yi, (gi, tt)))))))))

-- settling: the choice
module _ (n : ℕ) (t : List ℕ) (j : Job) (q : Path) (a b : Links) where
  two-grand : (z x : Rec) → grounds_two n q a b (view n t q.grand) z x ≡ true → q.grand < n
  unfolding grounds_two
  two-grand z x g = formed-in n t q.grand (both_first (well_formed n q.grand (view n t q.grand)) _ g)

  three-grand : (z x : Rec) → grounds_three n q a b (view n t q.grand) z x ≡ true → q.grand < n
  unfolding grounds_three
  three-grand z x g = two-grand z x (both_first (grounds_two n q a b (view n t q.grand) z x) _ g)

  four-grand : (i : ℕ) (z x y : Rec) → grounds_four n q a b i (view n t q.grand) z x y ≡ true → q.grand < n
  unfolding grounds_four
  four-grand i z x y g = three-grand z x (both_first (grounds_three n q a b (view n t q.grand) z x) _ g)

  formed-parent : (x s : Rec) → choose_formed n q b (view n t q.parent) x s ≡ true → q.parent < n
  unfolding choose_formed
  formed-parent x s g = formed-in n t q.parent (both_first (well_formed n q.parent (view n t q.parent)) _ g)

  formed-here : (z s : Rec) → choose_formed n q b z (view n t q.here) s ≡ true → q.here < n
  unfolding choose_formed
  formed-here z s g =
      linked-in n t q.here (both_first (linked n q.here (view n t q.here)) _ (both-second (well_formed n q.parent z) _ g))

  turn-y : (o : Around) (w : Rec) → turn_formed n o (view n t o.y) w ≡ true → o.y < n
  unfolding turn_formed
  turn-y o w g = linked-in n t o.y (both_first (linked n o.y (view n t o.y)) _ g)

  choose_in : (s : Rec) → Inside n (choose_step (view n t) n j q a b (view n t q.parent) (view n t q.here) s)
  unfolding choose_step choose_by commit_two
  choose_in s =
      if_elim (Inside n) _ (λ r. tt)
      (λ r.
      let p = formed-parent _ s (not-false (choose_formed n q b (view n t q.parent) (view n t q.here) s) r) in
      if_elim (Inside n) _ (λ w. tt) (λ w. commit-in n _ _ _ _ (λ g. promote-by_in n (view n t) j q (two-grand _ _ g) p _ a b _)))

  module _ (c : Links) (pi : q.parent < n) (hi : q.here < n) (z x : Rec) where
    rotate-turn_in : (y w : Rec) → Inside n (rotate_turn (view n t) n j q a b c z x y w)
    unfolding rotate_turn rotate_on commit_three
    rotate-turn_in y w =
        if_elim (Inside n) _ (λ r. tt)
        (λ r. if_elim (Inside n) _ (λ d. tt) (λ d. commit-in n _ _ _ _ (λ g. rotate-by_in n (view n t) j q (three-grand _ _ g) pi _ z x hi _)))

    rotate-first_in : (row : ParentRow) → Inside n (rotate_first row (view n t) n j q a b c z x)
    unfolding rotate_first commit_three
    rotate-first_in row =
        if_elim (Inside n) _ (λ w. rotate-turn_in _ _) (λ w. commit-in n _ _ _ _ (λ g. promote-by_in n (view n t) j q (three-grand _ _ g) pi row a b z))

    double-turn_in : (d : Links) (w : Rec) → Inside n (double_turn (view n t) n j q a b c d z x (view n t (around_of q a b c).y) w)
    unfolding double_turn commit_four
    double-turn_in d w =
        if_elim (Inside n) _ (λ r. tt)
        (λ r.
        let y = turn-y (around_of q a b c) w (not-false (turn_formed n (around_of q a b c) (view n t (around_of q a b c).y) w) r) in
        commit-in n _ _ _ _ (λ g. double-by_in n (view n t) j q (four-grand _ _ _ _ g) pi _ z x hi d _ y _))

    double-first_in : (d : Links) (row : ParentRow) → Inside n (double_first row (view n t) n j q a b c d z x)
    unfolding double_first commit_four
    double-first_in d row =
        if_elim (Inside n) _ (λ w. double-turn_in d _) (λ w. commit-in n _ _ _ _ (λ g. promote-by_in n (view n t) j q (four-grand _ _ _ _ g) pi row a b z))

  rotate-in : (c : Links) (s : Rec) → Inside n (rotate_step (view n t) n j q a b c (view n t q.parent) (view n t q.here) s)
  unfolding rotate_step
  rotate-in c s =
      if_elim (Inside n) _ (λ r. tt)
      (λ r.
      let f = not-false (choose_formed n q b (view n t q.parent) (view n t q.here) s) r in
      rotate-first_in c (formed-parent _ s f) (formed-here _ s f) _ _ _)

  double-in : (c d : Links) (s : Rec) → Inside n (double_step (view n t) n j q a b c d (view n t q.parent) (view n t q.here) s)
  unfolding double_step
  double-in c d s =
      if_elim (Inside n) _ (λ r. tt)
      (λ r.
      let f = not-false (choose_formed n q b (view n t q.parent) (view n t q.here) s) r in
      double-first_in c (formed-parent _ s f) (formed-here _ s f) _ _ d _)

settle-in : (n : ℕ) (t : List ℕ) (j : Job) (q : Path) (f : SettleStage) → Inside n (settle_step (view n t) n j q f)
unfolding settle_step
settle-in n t j q SettleGrand = tt
settle-in n t j q (SettleParent a) = tt
settle-in n t j q (SettleChoose a b) = choose_in n t j q a b _
settle-in n t j q (SettleRotate a b c) = rotate-in n t j q a b c _
settle-in n t j q (SettleDouble a b c d) = double-in n t j q a b c d _

-- EVERY step, on every table and in every phase
pub step-inside : (n : ℕ) (t : List ℕ) (m : ℕ) (j : Job) (f : Phase) → Inside n (phase_step (view n t) n m j f)
unfolding phase_step
step-inside n t m j (Start g) = tt
step-inside n t m j (Walk g q) = tt
step-inside n t m j (PuttingIn q s) = put_in n t m j q s
step-inside n t m j (TakingOut q s) = take_in n t j q s
step-inside n t m j (Settling q s) = settle-in n t j q s
