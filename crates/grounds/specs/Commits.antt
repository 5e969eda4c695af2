-- The grounds of a commit: before its test, the test, after it; then limit and room.
use Rattle.std.specs.Prelude.{ℕ, ◌≤◌, ◌≡◌, List, [], ◌∷◌, ◌≢◌}
use Rattle.terms.specs.declared.Links.{Links}
use Rattle.terms.specs.declared.Path.{Path}
use Rattle.terms.specs.declared.Job.{Job}
use Rattle.terms.specs.declared.Phase.{Phase}
use Rattle.terms.specs.declared.Phase.TheVariants.{PuttingIn, TakingOut, Settling}
use Rattle.terms.specs.declared.PutStage.TheVariants.{PutCommit}
use Rattle.terms.specs.declared.TakeStage.TheVariants.{TakeCommit}
use Rattle.terms.specs.declared.SettleStage.TheVariants.{SettleChoose, SettleRotate, SettleDouble}
use Rattle.machine.specs.Table.{View}
use Rattle.grounds.specs.Order.{Twice}
use Rattle.grounds.specs.Record.{NoLinks, Level, LeadTo, AsNoted}
use Rattle.grounds.specs.Room.{Room}
use Rattle.grounds.specs.Settle.{LetS, LetSYW, Close, Wide, Row, RowDamaged, PromoteDamaged}
use Rattle.grounds.specs.Reads.{DoubleNow}

-- 17, "Commit only, before its test: two of the records read are one and the same, the noted links of a remembered record that was
-- read don't lead to the next one, a put-in doesn't stand on a leaf of another number": a are the parent's noted links
pub data PutBefore (v : View) (j : Job) (q : Path) (a : Links) : Type 0 where
  one_and_the_same : Twice (q.parent ∷ q.here ∷ []) → PutBefore v j q a
  parent_doesnt_lead_on : ¬ (LeadTo a q.here) → PutBefore v j q a
  not_on_a_leaf_of_another_number : ¬ (NoLinks (v q.here) × ((v q.here).number ≢ j.number)) → PutBefore v j q a

-- ".. a take-out doesn't stand on a leaf of its own number": a are the grandparent's noted links, b the parent's
pub data TakeBefore (v : View) (j : Job) (q : Path) (a b : Links) : Type 0 where
  one_and_the_same : Twice (q.grand ∷ q.parent ∷ b.left ∷ b.right ∷ []) → TakeBefore v j q a b
  grandparent_doesnt_lead_on : ¬ (LeadTo a q.parent) → TakeBefore v j q a b
  parent_doesnt_lead_on : ¬ (LeadTo b q.here) → TakeBefore v j q a b
  not_on_a_leaf_of_its_own_number : ¬ (NoLinks (v q.here) × ((v q.here).number ≡ j.number)) → TakeBefore v j q a b

-- ".. or the record being settled isn't level with its parent": a are pz's noted links, b those of z
pub data SettleBefore (v : View) (q : Path) (a b : Links) (read : List ℕ) : Type 0 where
  one_and_the_same : Twice read → SettleBefore v q a b read
  pz_doesnt_lead_on : ¬ (LeadTo a q.parent) → SettleBefore v q a b read
  z_doesnt_lead_on : ¬ (LeadTo b q.here) → SettleBefore v q a b read
  not_level_with_its_parent : ¬ (Level (v q.parent) (v q.here)) → SettleBefore v q a b read

-- the grounds before the test, of the steps that commit
pub data BeforeTest (v : View) (j : Job) : Phase → Type 0 where
  of_a_put_in : {q : Path} {a b : Links} → PutBefore v j q a → BeforeTest v j (PuttingIn q (PutCommit a b))
  of_a_take_out : {q : Path} {a b c d : Links} → TakeBefore v j q a b → BeforeTest v j (TakingOut q (TakeCommit a b c d))
  with_pz_and_z_read :
      {q : Path} {a b : Links}
      → LetS b q.here (λ s. (¬ (Wide (v q.parent).rank (v s).rank)) × SettleBefore v q a b (q.grand ∷ q.parent ∷ []))
      → BeforeTest v j (Settling q (SettleChoose a b))
  with_x_read :
      {q : Path} {a b c : Links}
      → LetSYW b c q.here (λ s y w. (¬ (DoubleNow v q s y w)) × SettleBefore v q a b (q.grand ∷ q.parent ∷ q.here ∷ []))
      → BeforeTest v j (Settling q (SettleRotate a b c))
  with_y_read :
      {q : Path} {a b c d : Links} → LetSYW b c q.here (λ s y w. SettleBefore v q a b (q.grand ∷ q.parent ∷ q.here ∷ y ∷ []))
      → BeforeTest v j (Settling q (SettleDouble a b c d))

-- THE TEST of each commit: "If every record read is still in state 1 with both links as noted"
abbrev pub PutTest : View → Path → Links → Links → Type 0
PutTest v q a b = AsNoted (v q.parent) a × AsNoted (v q.here) b

abbrev pub TakeTest : View → Path → Links → Links → Links → Links → Type 0
TakeTest v q a b c d = AsNoted (v q.grand) a × AsNoted (v q.parent) b × AsNoted (v b.left) c × AsNoted (v b.right) d

abbrev pub TestTwo : View → Path → Links → Links → Type 0
TestTwo v q a b = AsNoted (v q.grand) a × AsNoted (v q.parent) b

abbrev pub TestThree : View → Path → Links → Links → Links → Type 0
TestThree v q a b c = TestTwo v q a b × AsNoted (v q.here) c

abbrev pub TestFour : View → Path → Links → Links → Links → Links → ℕ → Type 0
TestFour v q a b c d y = TestThree v q a b c × AsNoted (v y) d

-- the settling table by the ranks that the step finds: its damage, and fewer free slots than its row takes
abbrev pub RowDamagedNow : View → Path → ℕ → ℕ → ℕ → Type 0
RowDamagedNow v q s y w = RowDamaged (v q.parent).rank (v q.here).rank (v s).rank (v y).rank (v w).rank

abbrev pub NoSlotsNow : View → ℕ → Path → ℕ → ℕ → ℕ → Type 0
NoSlotsNow v n q s y w =
    (k : ℕ) × (ranks : List ℕ) × Row (v q.parent).rank (v q.here).rank (v s).rank (v y).rank (v w).rank k ranks × (¬ (Room v n k))

-- 17, "Settling commit only, after its test has held"
pub data AfterTest (v : View) : Phase → Type 0 where
  with_pz_and_z_read :
      {q : Path} {a b : Links} → LetS b q.here (λ s. TestTwo v q a b × PromoteDamaged (v q.parent).rank (v s).rank)
      → AfterTest v (Settling q (SettleChoose a b))
  with_x_read :
      {q : Path} {a b c : Links} → LetSYW b c q.here (λ s y w. (¬ (DoubleNow v q s y w)) × TestThree v q a b c × RowDamagedNow v q s y w)
      → AfterTest v (Settling q (SettleRotate a b c))
  with_y_read :
      {q : Path} {a b c d : Links} → LetSYW b c q.here (λ s y w. TestFour v q a b c d y × RowDamagedNow v q s y w)
      → AfterTest v (Settling q (SettleDouble a b c d))

-- 16 "1,000,000 put-ins already committed": "Limit and room are looked at only after this test."
pub data AtLimit (v : View) (m : ℕ) : Phase → Type 0 where
  at_the_commit_of_a_put_in : {q : Path} {a b : Links} → PutTest v q a b → 1000000 ≤ m → AtLimit v m (PuttingIn q (PutCommit a b))

-- 15 "no room, at the commit of a put-in or take-out": "Put-in (3 slots)", "Take-out (1 slot)"
pub data WithoutRoom (v : View) (n : ℕ) : Phase → Type 0 where
  at_the_commit_of_a_put_in : {q : Path} {a b : Links} → PutTest v q a b → ¬ (Room v n 3) → WithoutRoom v n (PuttingIn q (PutCommit a b))
  at_the_commit_of_a_take_out :
      {q : Path} {a b c d : Links} → TakeTest v q a b c d → ¬ (Room v n 1) → WithoutRoom v n (TakingOut q (TakeCommit a b c d))

-- "Too few slots at a settling commit gives 6.": fewer than the row takes
pub data TooFewSlots (v : View) (n : ℕ) : Phase → Type 0 where
  with_pz_and_z_read :
      {q : Path} {a b : Links} → LetS b q.here (λ s. TestTwo v q a b × Close (v q.parent).rank (v s).rank × (¬ (Room v n 1)))
      → TooFewSlots v n (Settling q (SettleChoose a b))
  with_x_read :
      {q : Path} {a b c : Links} → LetSYW b c q.here (λ s y w. (¬ (DoubleNow v q s y w)) × TestThree v q a b c × NoSlotsNow v n q s y w)
      → TooFewSlots v n (Settling q (SettleRotate a b c))
  with_y_read :
      {q : Path} {a b c d : Links} → LetSYW b c q.here (λ s y w. TestFour v q a b c d y × NoSlotsNow v n q s y w)
      → TooFewSlots v n (Settling q (SettleDouble a b c d))
