-- The test of a commit holds only where every record noted is as noted.
use Prim.Native.Nat.{ℕ}
use mathlib.Core.Bool.{◌&&◌, false, true}
use mathlib.Core.Path.{◌≡◌}
use native.Mathlib.Omega.{arith}
use Rattle.grounds.proofs.Records.{says_still}
use Rattle.grounds.specs.Record.{AsNoted}
use Rattle.machine.specs.PutIn.{put_test}
use Rattle.machine.specs.Record.{still}
use Rattle.machine.specs.Rows.{around_of}
use Rattle.machine.specs.Settling.{test_four, test_three, test_two}
use Rattle.machine.specs.Table.{View}
use Rattle.machine.specs.TakeOut.{take_test}
use Rattle.steps.proofs.Facts.{both}
use Rattle.structure.specs.Readings.{AllAsNoted, phase_notes, phase_tested, put_notes, put_tested, settle_notes, settle_tested, take_notes, take_tested, work_notes, work_tested}
use Rattle.terms.specs.declared.Links.{Links}
use Rattle.terms.specs.declared.Path.{Path}
use Rattle.terms.specs.declared.Phase.{Phase}
use Rattle.terms.specs.declared.Phase.TheVariants.{PuttingIn, Settling, Start, TakingOut, Walk}
use Rattle.terms.specs.declared.PutStage.{PutStage}
use Rattle.terms.specs.declared.PutStage.TheVariants.{PutCommit, PutLeaf, PutParent}
use Rattle.terms.specs.declared.SettleStage.{SettleStage}
use Rattle.terms.specs.declared.SettleStage.TheVariants.{SettleChoose, SettleDouble, SettleGrand, SettleParent, SettleRotate}
use Rattle.terms.specs.declared.TakeStage.{TakeStage}
use Rattle.terms.specs.declared.TakeStage.TheVariants.{TakeCommit, TakeGrand, TakeLeft, TakeParent, TakeRight}
use Rattle.terms.specs.declared.Work.{Work}
use Rattle.terms.specs.declared.Work.TheVariants.{Busy, Idle}

never : {A : Type 0} → false ≡ true → A
never e = absurd (let z : ◌≡◌ {A = ℕ} 0 1 = cc in omega arith)

module _ (v : View) (q : Path) where
  put-noted : (s : PutStage) → put_tested v q s ≡ true → AllAsNoted v (put_notes q s)
  unfolding put_test
  put-noted PutParent t = tt
  put-noted (PutLeaf a) t = never t
  put-noted (PutCommit a b) t = let h = both (still (v q.parent) a) (still (v q.here) b) t in ((says_still (v q.parent) a).holds h.0, ((says_still (v q.here) b).holds h.1, tt))

  take_noted : (s : TakeStage) → take_tested v q s ≡ true → AllAsNoted v (take_notes q s)
  unfolding take_test
  take_noted TakeGrand t = tt
  take_noted (TakeParent a) t = never t
  take_noted (TakeLeft a b) t = never t
  take_noted (TakeRight a b c) t = never t
  take_noted (TakeCommit a b c d) t =
      let h = both (still (v q.grand) a) _ t in
      let i = both (still (v q.parent) b) _ h.1 in
      let k = both (still (v b.left) c) (still (v b.right) d) i.1 in
      ((says_still (v q.grand) a).holds h.0, ((says_still (v q.parent) b).holds i.0, ((says_still (v b.left) c).holds k.0, ((says_still (v b.right) d).holds k.1, tt))))

  two-noted : (a b : Links) → test_two a b (v q.grand) (v q.parent) ≡ true → AsNoted (v q.grand) a × AsNoted (v q.parent) b
  unfolding test_two
  two-noted a b t = let h = both (still (v q.grand) a) (still (v q.parent) b) t in ((says_still (v q.grand) a).holds h.0, (says_still (v q.parent) b).holds h.1)

  settle-noted : (s : SettleStage) → settle_tested v q s ≡ true → AllAsNoted v (settle_notes q s)
  unfolding test_three test_four
  settle-noted SettleGrand t = tt
  settle-noted (SettleParent a) t = never t
  settle-noted (SettleChoose a b) t = let h = two-noted a b t in (h.0, (h.1, tt))
  settle-noted (SettleRotate a b c) t =
      let k = both (test_two a b (v q.grand) (v q.parent)) (still (v q.here) c) t in
      let h = two-noted a b k.0 in
      (h.0, (h.1, ((says_still (v q.here) c).holds k.1, tt)))
  settle-noted (SettleDouble a b c d) t =
      let i = both (test_two a b (v q.grand) (v q.parent) && still (v q.here) c) (still (v (around_of q a b c).y) d) t in
      let k = both (test_two a b (v q.grand) (v q.parent)) (still (v q.here) c) i.0 in
      let h = two-noted a b k.0 in
      (h.0, (h.1, ((says_still (v q.here) c).holds k.1, ((says_still (v (around_of q a b c).y) d).holds i.1, tt))))

phase_noted : (v : View) (f : Phase) → phase_tested v f ≡ true → AllAsNoted v (phase_notes f)
phase_noted v (Start g) t = tt
phase_noted v (Walk g q) t = tt
phase_noted v (PuttingIn q s) t = put-noted v q s t
phase_noted v (TakingOut q s) t = take_noted v q s t
phase_noted v (Settling q s) t = settle-noted v q s t

pub work-noted : (v : View) (w : Work) → work_tested v w ≡ true → AllAsNoted v (work_notes w)
work-noted v Idle t = tt
work-noted v (Busy j f) t = phase_noted v f t
