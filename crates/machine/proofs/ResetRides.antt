-- Rides of the reset call: its 18, the lengths just beside it, and that it starts everything anew, with a task busy and counts out of range.
use mathlib.Core.List.{List, [], ◌∷◌}
use Rattle.terms.specs.declared.Operation.TheVariants.{PutIn}
use Rattle.machine.proofs.Ride.{Ride, anew, beside, reset, begin, step, field, m_is, u_is, length_is, call, damage, same, left, rec}

unfoldable pub reset_rides : List Ride
reset_rides =
    record { start = anew 8; lines = damage (length_is 47) ∷ call reset 18 0 ∷ []; after = same }
    ∷ record { start = beside; lines = damage (length_is 42) ∷ call reset 18 0 ∷ []; after = same }
    ∷ record { start = beside; lines = damage (length_is 49) ∷ call reset 18 0 ∷ []; after = same }
    ∷ record { start = beside; lines = damage (length_is 24582) ∷ call reset 18 0 ∷ []; after = same }
    ∷ record {
      start = beside;
      lines =
          call (begin 3 PutIn 10 250) 0 0 ∷ call (step 3 4) 3 0 ∷ call (begin 3 PutIn 20 5) 0 0 ∷ damage (m_is 1000001) ∷ damage (u_is 4294967295)
          ∷ damage (field 0 0 9) ∷ damage (field 7 2 77) ∷ call reset 0 0 ∷ [];
      after =
          left (record {
            used = 2;
            root = 0 ∷ 0 ∷ [];
            settled = [];
            busy = [];
            fares = 0 ∷ [];
            figures = 0 ∷ 0 ∷ 0 ∷ 0 ∷ 0 ∷ 0 ∷ 6 ∷ 0 ∷ [];
            table = rec 1 4294967295 0 255 1 0 ∷ rec 1 4294967295 0 255 0 0 ∷ [];
          });
    }
    ∷ []
