-- What a step makes of its task's notes: they go, stay, or get one more, of a record in state 1; and where a step writes, its test holds.
use Prim.Native.Nat.{ℕ}
use borrow.Author.Tests.{eqb-true, leb-false, not-false}
use mathlib.Core.Bool.{Bool, true}
use mathlib.Core.List.{List, [], ◌++◌, ◌∷◌}
use mathlib.Core.Logic.{◌⊎◌, inl, inr}
use mathlib.Core.Path.{◌≡◌, refl, sym}
use Rattle.demand2.proofs.After.{task_after}
use Rattle.grounds.proofs.Records.{says_leads}
use Rattle.grounds.specs.Record.{AsNoted, LeadTo}
use Rattle.machine.proofs.Choice.{if_elim}
use Rattle.machine.proofs.Tests.{both_first}
use Rattle.machine.specs.Commit.{Did, calm, commit_if, reading}
use Rattle.machine.specs.PutIn.{put_commit, put_limit, put_room, put_step, put_turn, put_writes, read_put_leaf, read_put_parent}
use Rattle.machine.specs.Record.{in_tree, leads, linked, links_of, other, well_formed}
use Rattle.machine.specs.Rows.{around_of, double_writes, rotate_writes}
use Rattle.machine.specs.Settling.{choose_by, choose_step, commit_four, commit_three, commit_two, double_by, double_do, double_first, double_step, double_turn, promote_by, promote_do, read_grand, read_on, read_parent, rotate_by, rotate_do, rotate_first, rotate_on, rotate_step, rotate_turn, rotate_two_do, settle_step}
use Rattle.machine.specs.Step.{phase_step}
use Rattle.machine.specs.Table.{View, Write, fill, lead, off, slot1, slot2, slot3}
use Rattle.machine.specs.TakeOut.{read_take_grand, read_take_left, read_take_parent, read_take_right, take_apart, take_commit, take_grounds, take_room, take_step}
use Rattle.machine.specs.Walk.{arrival, at_leaf, serve_arrival, settle_arrival, walk_from, walk_on, walk_to}
use Rattle.steps.proofs.Facts.{both}
use Rattle.steps.proofs.Rooms.{ThreeFree, one_free, three-free, two-free}
use Rattle.structure.specs.Readings.{Note, note, phase_notes, phase_tested, take_notes, work_notes}
use Rattle.terms.specs.Task.{busy, goal_of, no_grand, noted_phase}
use Rattle.terms.specs.declared.Answer.{Answer}
use Rattle.terms.specs.declared.Answer.TheVariants.{Found, HeldAlready, Limit, NoRoom, NotHeld, PutSettled, PutUnsettled, TakenOut}
use Rattle.terms.specs.declared.Around.{Around}
use Rattle.terms.specs.declared.Goal.{Goal}
use Rattle.terms.specs.declared.Goal.TheVariants.{Serve, Settle}
use Rattle.terms.specs.declared.Job.{Job}
use Rattle.terms.specs.declared.LevelRow.{LevelRow}
use Rattle.terms.specs.declared.LevelRow.TheVariants.{DoubleRotation, NoRow, RotateOne, RotateTwo}
use Rattle.terms.specs.declared.Links.{Links}
use Rattle.terms.specs.declared.Operation.{Operation}
use Rattle.terms.specs.declared.Operation.TheVariants.{LookUp, PutIn, TakeOut}
use Rattle.terms.specs.declared.ParentRow.{ParentRow}
use Rattle.terms.specs.declared.ParentRow.TheVariants.{Outranked, Promote, Wider}
use Rattle.terms.specs.declared.Path.{Path}
use Rattle.terms.specs.declared.Phase.{Phase}
use Rattle.terms.specs.declared.Phase.TheVariants.{PuttingIn, Settling, Start, TakingOut, Walk}
use Rattle.terms.specs.declared.PutStage.{PutStage}
use Rattle.terms.specs.declared.PutStage.TheVariants.{PutCommit, PutLeaf, PutParent}
use Rattle.terms.specs.declared.Rec.{Rec}
use Rattle.terms.specs.declared.SettleStage.{SettleStage}
use Rattle.terms.specs.declared.SettleStage.TheVariants.{SettleChoose, SettleDouble, SettleGrand, SettleParent, SettleRotate}
use Rattle.terms.specs.declared.TakeStage.{TakeStage}
use Rattle.terms.specs.declared.TakeStage.TheVariants.{TakeCommit, TakeGrand, TakeLeft, TakeParent, TakeRight}
use Rattle.terms.specs.declared.Turn.{Turn}
use Rattle.terms.specs.declared.Turn.TheVariants.{Done, Hurt, Next}

pub data NotesGo (v : View) (old : List Note) : List Note → Type 0 where
  dropped : NotesGo v old []
  kept : NotesGo v old old
  one_more : (r : Note) → AsNoted (v r.slot) r.links → NotesGo v old (old ++ (r ∷ []))

-- the notes after a turn
abbrev pub notes_after : Job → Phase → Turn → List Note
notes_after j f a = work_notes (task_after a (busy j f)).work

-- a slot of one of the notes
abbrev pub SlotOf : ℕ → List Note → Type 0
SlotOf x [] = ⊥
SlotOf x (r ∷ rs) = (x ≡ r.slot) ⊎ SlotOf x rs

-- whole records go to free slots; a link is changed, and a record taken off, only where it was read
abbrev pub Covered : View → List Note → List Write → Type 0
Covered v rs [] = Unit {0}
Covered v rs (fill x r ∷ ws) = ((v x).state ≡ 0) × Covered v rs ws
Covered v rs (lead x b a ∷ ws) = SlotOf x rs × Covered v rs ws
Covered v rs (off x ∷ ws) = SlotOf x rs × Covered v rs ws

pub data Sees (v : View) (j : Job) (f : Phase) (d : Did) : Type 0 where
  sees : NotesGo v (phase_notes f) (notes_after j f d.turn) → Covered v (phase_notes f) d.writes → (d.writes ≡ []) ⊎ (phase_tested v f ≡ true) → Sees v j f d

pub data Turns (v : View) (j : Job) (f : Phase) (a : Turn) : Type 0 where
  turns : NotesGo v (phase_notes f) (notes_after j f a) → Turns v j f a

quiet : {v : View} {j : Job} {f : Phase} {a : Turn} → Turns v j f a → Sees v j f (calm a)
quiet (turns n) = sees n tt (inl refl)

module _ (v : View) (j : Job) (f : Phase) where
  -- a turn that ends, or starts again, or is 17
  over : (a : Answer) → Turns v j f (Done a)
  over a = turns dropped

  again : (g : Goal) → Turns v j f (Next (busy j (Start g)))
  again g = turns dropped

  hurt : Turns v j f Hurt
  hurt = turns kept

  -- a reading of slot s: its note is the last one then
  read-turns : (s : ℕ) (formed good : Bool) → (good ≡ true → in_tree (v s) ≡ true) → phase_notes (noted_phase f (links_of (v s))) ≡ phase_notes f ++ (note s (links_of (v s)) ∷ [])
      → Turns v j f (reading (busy j f) formed good (v s))
  unfolding reading in_tree
  read-turns s formed good one e =
      if_elim (Turns v j f) _ (λ q. hurt)
      (λ q. if_elim (Turns v j f) _
      (λ g. turns (rw e (one_more (note s (links_of (v s))) (record { state-1 = eqb-true _ _ (one g); left_as_noted = refl; right_as_noted = refl })))) (λ g. again (goal_of f)))

  -- a commit: its change is made only where the test holds, and it leaves no notes
  data Changes (d : Did) : Type 0 where
    changes : Turns v j f d.turn → Covered v (phase_notes f) d.writes → Changes d

  commit-sees : (grounds : Bool) (change : Did) → (grounds ≡ true → Changes change) → Sees v j f (commit_if (busy j f) grounds (phase_tested v f) change)
  unfolding commit_if
  commit-sees grounds change c =
      if_elim (Sees v j f) _ (λ q. quiet hurt)
      (λ q. if_elim (Sees v j f) _ (λ t. quiet (again (goal_of f))) (λ t. made (c (not-false grounds q)) (not-false (phase_tested v f) t)))
    where
      made : Changes change → phase_tested v f ≡ true → Sees v j f change
      made (changes (turns n) w) t = sees n w (inr t)

  -- a change that writes nothing
  calmly : {a : Turn} → Turns v j f a → Changes (calm a)
  calmly n = changes n tt

-- ---- the walk: no notes before, none after

module _ (v : View) (j : Job) (f : Phase) where
  leaf_turns : (o : Operation) (q : Path) (r : Rec) → Turns v j f (at_leaf o j q r)
  unfolding at_leaf
  leaf_turns LookUp q r = if_elim (Turns v j f) _ (λ e. over v j f (Found r.price)) (λ e. over v j f NotHeld)
  leaf_turns PutIn q r = if_elim (Turns v j f) _ (λ e. over v j f HeldAlready) (λ e. turns dropped)
  leaf_turns TakeOut q r = if_elim (Turns v j f) _ (λ e. turns dropped) (λ e. over v j f NotHeld)

  arrival-turns : (g : Goal) (q : Path) (p h : Rec) → Turns v j f (arrival g j q p h)
  unfolding arrival serve_arrival settle_arrival
  arrival-turns (Serve o) q p h = if_elim (Turns v j f) _ (λ e. leaf_turns o q h) (λ e. turns dropped)
  arrival-turns Settle q p h =
      if_elim (Turns v j f) _ (λ e. hurt v j f)
      (λ e. if_elim (Turns v j f) _ (λ b. turns dropped) (λ b. if_elim (Turns v j f) _ (λ c. over v j f PutSettled) (λ c. turns dropped)))

  from-turns : (n : ℕ) (g : Goal) (grand s : ℕ) → Turns v j f (walk_from v n g j grand s)
  unfolding walk_from walk_to
  from-turns n g grand s =
      if_elim (Turns v j f) _ (λ e. hurt v j f)
      (λ e. if_elim (Turns v j f) _ (λ b. hurt v j f) (λ b. arrival-turns g _ _ _))

  on-turns : (n : ℕ) (g : Goal) (q : Path) → Turns v j f (walk_on v n g j q)
  unfolding walk_on
  on-turns n g q = if_elim (Turns v j f) _ (λ e. hurt v j f) (λ e. from-turns n g q.parent q.here)

-- ---- put-in

module _ (v : View) (n m : ℕ) (j : Job) (q : Path) where
  put-turn : (f : Phase) (p h : Rec) → Turns v j f (put_turn j p h)
  unfolding put_turn
  put-turn f p h = if_elim (Turns v j f) _ (λ d. again v j f Settle) (λ d. over v j f PutSettled)

  put-covered : (rs : List Note) (e : Bool) (h : Rec) → SlotOf q.parent rs → SlotOf q.here rs → ThreeFree v n → Covered v rs (put_writes j q e h (slot1 v n) (slot2 v n) (slot3 v n))
  unfolding put_writes
  put-covered rs e h at_p at-h r = if_elim (Covered v rs) _ (λ b. (r.first, (r.second, (r.third, (at-h, (at_p, tt)))))) (λ b. (r.first, (r.second, (r.third, (at-h, (at_p, tt))))))

  put-change : (f : Phase) (e : Bool) (p h : Rec) → SlotOf q.parent (phase_notes f) → SlotOf q.here (phase_notes f) → Changes v j f (put_limit v n m j q e p h)
  unfolding put_limit put_room
  put-change f e p h at_p at-h =
      if_elim (Changes v j f) _ (λ b. calmly v j f (over v j f Limit))
      (λ b. if_elim (Changes v j f) _ (λ c. calmly v j f (over v j f NoRoom))
      (λ c. changes (put-turn f p h) (put-covered (phase_notes f) e h at_p at-h (three-free v n (leb-false n (slot3 v n) c)))))

  put-sees : (s : PutStage) → Sees v j (PuttingIn q s) (put_step v n m j q s)
  unfolding put_step read_put_parent read_put_leaf put_commit
  put-sees PutParent = quiet (read-turns v j (PuttingIn q PutParent) q.parent _ _ (λ g. both_first _ _ g) refl)
  put-sees (PutLeaf a) = quiet (read-turns v j (PuttingIn q (PutLeaf a)) q.here _ _ (λ g. g) refl)
  put-sees (PutCommit a b) =
      commit-sees v j (PuttingIn q (PutCommit a b)) _ _ (λ g. put-change (PuttingIn q (PutCommit a b)) _ _ _ (inl refl) (inr (inl refl)))

-- ---- take-out

module _ (v : View) (n : ℕ) (j : Job) (q : Path) where
  take_change : (f : Phase) (e : Bool) (s : Rec) (sibling : ℕ) → SlotOf q.grand (phase_notes f) → SlotOf q.parent (phase_notes f) → SlotOf q.here (phase_notes f) → SlotOf sibling (phase_notes f)
      → Changes v j f (take_room v n q e s sibling)
  unfolding take_room
  take_change f e s sibling at_g at_p at-h at-s =
      if_elim (Changes v j f) _ (λ c. calmly v j f (over v j f NoRoom))
      (λ c. changes (over v j f TakenOut) (one_free v n (leb-false n (slot1 v n) c), (at_p, (at-h, (at-s, (at_g, tt))))))

  -- the leaf and its sibling are the parent's children as noted
  leads-here : (a b : Links) (g p l r : Rec) → take_grounds n j q a b g p l r ≡ true → LeadTo b q.here
  unfolding take_grounds
  leads-here a b g p l r e =
      let e₁ = both (well_formed n q.grand g) _ e in
      let e₂ = both (well_formed n q.parent p) _ e₁.1 in
      let e₃ = both (linked n b.left l) _ e₂.1 in
      let e₄ = both (linked n b.right r) _ e₃.1 in
      let e₅ = both (take_apart q b) _ e₄.1 in
      let e₆ = both (leads a q.parent) _ e₅.1 in
      (says_leads b q.here).holds (both (leads b q.here) _ e₆.1).0

  other-child : (b : Links) (s : ℕ) → (other b s ≡ b.left) ⊎ (other b s ≡ b.right)
  unfolding other
  other-child b s = if_elim (λ x. (x ≡ b.left) ⊎ (x ≡ b.right)) _ (λ e. inr refl) (λ e. inl refl)

  child-slot : (a b c d : Links) (x : ℕ) → (x ≡ b.left) ⊎ (x ≡ b.right) → SlotOf x (take_notes q (TakeCommit a b c d))
  child-slot a b c d x (inl e) = inr (inr (inl e))
  child-slot a b c d x (inr e) = inr (inr (inr (inl e)))

  led-child : (b : Links) → LeadTo b q.here → (q.here ≡ b.left) ⊎ (q.here ≡ b.right)
  led-child b l = elim l.1 [ inl e ↦ inl (sym e) | inr e ↦ inr (sym e) ]

  take_sees : (s : TakeStage) → Sees v j (TakingOut q s) (take_step v n j q s)
  unfolding take_step read_take_grand read_take_parent read_take_left read_take_right take_commit
  take_sees TakeGrand = quiet (read-turns v j (TakingOut q TakeGrand) q.grand _ _ (λ g. both_first _ _ g) refl)
  take_sees (TakeParent a) = quiet (read-turns v j (TakingOut q (TakeParent a)) q.parent _ _ (λ g. both_first _ _ g) refl)
  take_sees (TakeLeft a b) = quiet (read-turns v j (TakingOut q (TakeLeft a b)) b.left _ _ (λ g. g) refl)
  take_sees (TakeRight a b c) = quiet (read-turns v j (TakingOut q (TakeRight a b c)) b.right _ _ (λ g. g) refl)
  take_sees (TakeCommit a b c d) =
      commit-sees v j (TakingOut q (TakeCommit a b c d)) _ _
      (λ g. take_change (TakingOut q (TakeCommit a b c d)) _ _ _ (inl refl) (inr (inl refl)) (child-slot a b c d q.here (led-child b (leads-here a b _ _ _ _ g)))
      (child-slot a b c d (other b q.here) (other-child b q.here)))

-- ---- settling

module _ (v : View) (n : ℕ) (j : Job) (q : Path) where
  module _ (f : Phase) (at_g : SlotOf q.grand (phase_notes f)) (at_p : SlotOf q.parent (phase_notes f)) where
    promote-change : (row : ParentRow) (a b : Links) (z : Rec) → Changes v j f (promote_by row v n j q a b z)
    unfolding promote_by promote_do
    promote-change Outranked a b z = calmly v j f (hurt v j f)
    promote-change Promote a b z =
        if_elim (Changes v j f) _ (λ e. calmly v j f (hurt v j f))
        (λ e. if_elim (Changes v j f) _ (λ c. calmly v j f (over v j f PutUnsettled))
        (λ c. changes (again v j f Settle) (one_free v n (leb-false n (slot1 v n) c), (at_p, (at_g, tt)))))
    promote-change Wider a b z = calmly v j f (hurt v j f)

    module _ (at-h : SlotOf q.here (phase_notes f)) where
      turn-change : (o : Around) (z x : Rec) (rx rz : ℕ) → Changes v j f (rotate_do v n j q o z x rx rz)
      unfolding rotate_do rotate_writes
      turn-change o z x rx rz =
          if_elim (Changes v j f) _ (λ c. calmly v j f (over v j f PutUnsettled))
          (λ c. let r = two-free v n (leb-false n (slot2 v n) c) in changes (again v j f Settle) (r.first, (r.second, (at_p, (at-h, (at_g, tt))))))

      rotate-change : (row : LevelRow) (o : Around) (z x : Rec) → Changes v j f (rotate_by row v n j q o z x)
      unfolding rotate_by rotate_two_do
      rotate-change NoRow o z x = calmly v j f (hurt v j f)
      rotate-change RotateOne o z x = turn-change o z x _ _
      rotate-change RotateTwo o z x = if_elim (Changes v j f) _ (λ e. calmly v j f (hurt v j f)) (λ e. turn-change o z x _ _)
      rotate-change DoubleRotation o z x = calmly v j f (hurt v j f)

      double-covered : (o : Around) (d : Links) (z x y : Rec) → SlotOf o.y (phase_notes f) → ThreeFree v n → Covered v (phase_notes f) (double_writes q o d z x y (slot1 v n) (slot2 v n) (slot3 v n))
      unfolding double_writes
      double-covered o d z x y at_y r =
          if_elim (Covered v (phase_notes f)) _ (λ b. (r.first, (r.second, (r.third, (at_p, (at-h, (at_y, (at_g, tt))))))))
          (λ b. (r.first, (r.second, (r.third, (at_p, (at-h, (at_y, (at_g, tt))))))))

      double-change : (row : LevelRow) (o : Around) (d : Links) (z x y : Rec) → SlotOf o.y (phase_notes f) → Changes v j f (double_by row v n j q o d z x y)
      unfolding double_by double_do
      double-change NoRow o d z x y at_y = calmly v j f (hurt v j f)
      double-change RotateOne o d z x y at_y = rotate-change RotateOne o z x
      double-change RotateTwo o d z x y at_y = rotate-change RotateTwo o z x
      double-change DoubleRotation o d z x y at_y =
          if_elim (Changes v j f) _ (λ c. calmly v j f (over v j f PutUnsettled))
          (λ c. changes (again v j f Settle) (double-covered o d z x y at_y (three-free v n (leb-false n (slot3 v n) c))))

  two-sees : (a b : Links) (x : Rec) (change : Did) → Changes v j (Settling q (SettleChoose a b)) change → Sees v j (Settling q (SettleChoose a b)) (commit_two v n j q a b (v q.parent) x change)
  unfolding commit_two
  two-sees a b x change c = commit-sees v j (Settling q (SettleChoose a b)) _ change (λ g. c)

  three-sees : (a b c : Links) (change : Did) → Changes v j (Settling q (SettleRotate a b c)) change
      → Sees v j (Settling q (SettleRotate a b c)) (commit_three v n j q a b c (v q.parent) (v q.here) change)
  unfolding commit_three
  three-sees a b c change d = commit-sees v j (Settling q (SettleRotate a b c)) _ change (λ g. d)

  four-sees : (a b c d : Links) (change : Did) → Changes v j (Settling q (SettleDouble a b c d)) change
      → Sees v j (Settling q (SettleDouble a b c d)) (commit_four v n j q a b c d (around_of q a b c).y (v q.parent) (v q.here) change)
  unfolding commit_four
  four-sees a b c d change w = commit-sees v j (Settling q (SettleDouble a b c d)) _ change (λ g. w)

  settle-sees : (s : SettleStage) → Sees v j (Settling q s) (settle_step v n j q s)
  unfolding settle_step read_grand read_parent read_on choose_step choose_by rotate_step rotate_first rotate_turn rotate_on double_step double_first double_turn
  settle-sees SettleGrand = quiet (read-turns v j (Settling q SettleGrand) q.grand _ _ (λ g. both_first _ _ g) refl)
  settle-sees (SettleParent a) = quiet (read-turns v j (Settling q (SettleParent a)) q.parent _ _ (λ g. both_first _ _ g) refl)
  settle-sees (SettleChoose a b) =
      let f = Settling q (SettleChoose a b) in
      if_elim (Sees v j f) _ (λ e. quiet (hurt v j f))
      (λ e. if_elim (Sees v j f) _ (λ w. quiet (read-turns v j f q.here _ _ (λ g. g) refl)) (λ w. two-sees a b _ _ (promote-change f (inl refl) (inr (inl refl)) _ a b _)))
  settle-sees (SettleRotate a b c) =
      let f = Settling q (SettleRotate a b c) in
      if_elim (Sees v j f) _ (λ e. quiet (hurt v j f))
      (λ e. if_elim (Sees v j f) _
      (λ w. if_elim (Sees v j f) _ (λ d. quiet (hurt v j f))
      (λ d. if_elim (Sees v j f) _ (λ k. quiet (read-turns v j f (around_of q a b c).y _ _ (λ g. g) refl))
      (λ k. three-sees a b c _ (rotate-change f (inl refl) (inr (inl refl)) (inr (inr (inl refl))) _ _ _ _))))
      (λ w. three-sees a b c _ (promote-change f (inl refl) (inr (inl refl)) _ a b _)))
  settle-sees (SettleDouble a b c d) =
      let f = Settling q (SettleDouble a b c d) in
      if_elim (Sees v j f) _ (λ e. quiet (hurt v j f))
      (λ e. if_elim (Sees v j f) _
      (λ w. if_elim (Sees v j f) _ (λ k. quiet (hurt v j f))
      (λ k. four-sees a b c d _ (double-change f (inl refl) (inr (inl refl)) (inr (inr (inl refl))) _ _ d _ _ _ (inr (inr (inr (inl refl)))))))
      (λ w. four-sees a b c d _ (promote-change f (inl refl) (inr (inl refl)) _ a b _)))

-- EVERY step
pub step-sees : (v : View) (n m : ℕ) (j : Job) (f : Phase) → Sees v j f (phase_step v n m j f)
unfolding phase_step
step-sees v n m j (Start g) = quiet (from-turns v j (Start g) n g no_grand 0)
step-sees v n m j (Walk g q) = quiet (on-turns v j (Walk g q) n g q)
step-sees v n m j (PuttingIn q s) = put-sees v n m j q s
step-sees v n m j (TakingOut q s) = take_sees v n j q s
step-sees v n m j (Settling q s) = settle-sees v n j q s
