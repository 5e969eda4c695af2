-- ANSWERS AND REFUSALS. This paper's number and price for each case.
use Rattle.std.specs.Prelude.{ℕ}
use Rattle.terms.specs.declared.Refusal.{Refusal}
use Rattle.terms.specs.declared.Refusal.TheVariants as R
use Rattle.terms.specs.declared.Answer.{Answer}
use Rattle.terms.specs.declared.Answer.TheVariants.{Accepted, Found, NotHeld, PutSettled, HeldAlready, TakenOut, PutUnsettled, TaskNumber, OutOfRange, TaskBusy, TaskIdle, SomeBusy, NoRoom, Limit, Damaged, Length, BadRecord}

-- the first column of the table "Answers and refusals"
abbrev pub number_of : Answer → ℕ
number_of Accepted = 0
number_of (Found p) = 1
number_of NotHeld = 2
number_of PutSettled = 3
number_of HeldAlready = 4
number_of TakenOut = 5
number_of PutUnsettled = 6
number_of TaskNumber = 10
number_of OutOfRange = 11
number_of TaskBusy = 12
number_of TaskIdle = 13
number_of SomeBusy = 14
number_of NoRoom = 15
number_of Limit = 16
number_of Damaged = 17
number_of Length = 18
number_of BadRecord = 19

-- "Price is 0 in every answer but 1."
abbrev pub price_of : Answer → ℕ
price_of Accepted = 0
price_of (Found p) = p
price_of NotHeld = 0
price_of PutSettled = 0
price_of HeldAlready = 0
price_of TakenOut = 0
price_of PutUnsettled = 0
price_of TaskNumber = 0
price_of OutOfRange = 0
price_of TaskBusy = 0
price_of TaskIdle = 0
price_of SomeBusy = 0
price_of NoRoom = 0
price_of Limit = 0
price_of Damaged = 0
price_of Length = 0
price_of BadRecord = 0

-- a refusal, as the answer that it is
abbrev pub answer_of : Refusal → Answer
answer_of R.TaskNumber = TaskNumber
answer_of R.OutOfRange = OutOfRange
answer_of R.TaskBusy = TaskBusy
answer_of R.TaskIdle = TaskIdle
answer_of R.SomeBusy = SomeBusy
answer_of R.NoRoom = NoRoom
answer_of R.Limit = Limit
answer_of R.Damaged = Damaged
answer_of R.Length = Length
answer_of R.BadRecord = BadRecord
