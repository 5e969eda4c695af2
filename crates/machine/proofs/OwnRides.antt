-- The rides of second/rides/own.txt; made by second/to-proofs.
use mathlib.Core.List.{List, [], ◌∷◌}
use Rattle.terms.specs.declared.Operation.TheVariants.{LookUp, PutIn, TakeOut}
use Rattle.terms.specs.declared.Goal.TheVariants.{Serve, Settle}
use Rattle.terms.specs.declared.PutStage.TheVariants.{PutParent, PutLeaf, PutCommit}
use Rattle.terms.specs.declared.TakeStage.TheVariants.{TakeGrand, TakeLeft, TakeRight, TakeCommit}
use Rattle.terms.specs.declared.SettleStage.TheVariants.{SettleGrand, SettleParent, SettleChoose, SettleRotate, SettleDouble}
use Rattle.terms.specs.declared.Phase.TheVariants.{Start, Walk, PuttingIn, TakingOut, Settling}
use Rattle.machine.proofs.Ride.{Ride, anew, onward, beside, begin, step, abandon, tidy, figures, list, field, m_is, u_is, length_is, task_is, call, damage, same, left, rec, links, path, busy}

unfoldable pub own_rides : List Ride
own_rides =
    -- 1: promote case 2, x on the right: 10, 20, 30 in order
    record {
      start = anew 24;
      lines =
          call (begin 0 PutIn 10 110) 0 0
          ∷ call (step 0 4) 3 0
          ∷ call (begin 0 PutIn 20 120) 0 0
          ∷ call (step 0 5) 3 0
          ∷ call (begin 0 PutIn 30 130) 0 0
          ∷ call (step 0 16) 3 0
          ∷ [];
      after =
          left (record {
            used = 12;
            root = 20 ∷ 2 ∷ [];
            settled = 21 ∷ [];
            busy = [];
            fares = 0 ∷ 10 ∷ 110 ∷ 20 ∷ 120 ∷ 30 ∷ 130 ∷ [];
            figures = 0 ∷ 2 ∷ 0 ∷ 0 ∷ 3 ∷ 3 ∷ 12 ∷ 2 ∷ [];
            table =
                rec 1 4294967295 0 255 2 0
                ∷ rec 2 4294967295 0 255 0 0
                ∷ rec 1 4294967295 0 255 11 4
                ∷ rec 2 10 110 0 0 0
                ∷ rec 1 4294967295 0 255 0 0
                ∷ rec 2 20 0 1 6 8
                ∷ rec 1 10 110 0 0 0
                ∷ rec 2 20 120 0 0 0
                ∷ rec 1 30 0 1 9 10
                ∷ rec 1 20 120 0 0 0
                ∷ rec 1 30 130 0 0 0
                ∷ rec 1 20 0 2 6 8
                ∷ [];
          });
    }
    -- 2: rotate case 1, x on the right: then 40
    ∷ record {
      start = onward;
      lines =
          call (begin 0 PutIn 40 140) 0 0
          ∷ call (step 0 25) 3 0
          ∷ [];
      after =
          left (record {
            used = 18;
            root = 30 ∷ 2 ∷ [];
            settled = 21 ∷ 31 ∷ [];
            busy = [];
            fares = 0 ∷ 10 ∷ 110 ∷ 20 ∷ 120 ∷ 30 ∷ 130 ∷ 40 ∷ 140 ∷ [];
            figures = 0 ∷ 2 ∷ 0 ∷ 0 ∷ 4 ∷ 4 ∷ 6 ∷ 3 ∷ [];
            table =
                rec 1 4294967295 0 255 2 0
                ∷ rec 2 4294967295 0 255 0 0
                ∷ rec 1 4294967295 0 255 16 4
                ∷ rec 2 10 110 0 0 0
                ∷ rec 1 4294967295 0 255 0 0
                ∷ rec 2 20 0 1 6 8
                ∷ rec 1 10 110 0 0 0
                ∷ rec 2 20 120 0 0 0
                ∷ rec 2 30 0 1 9 12
                ∷ rec 1 20 120 0 0 0
                ∷ rec 2 30 130 0 0 0
                ∷ rec 2 20 0 2 6 15
                ∷ rec 1 40 0 1 13 14
                ∷ rec 1 30 130 0 0 0
                ∷ rec 1 40 140 0 0 0
                ∷ rec 2 30 0 2 9 12
                ∷ rec 1 30 0 2 17 12
                ∷ rec 1 20 0 1 6 9
                ∷ [];
          });
    }
    -- 3: double rotation, x on the right: 25 in place of 40
    ∷ record {
      start = beside;
      lines =
          call (begin 0 PutIn 25 125) 0 0
          ∷ call (step 0 26) 3 0
          ∷ [];
      after =
          left (record {
            used = 19;
            root = 25 ∷ 2 ∷ [];
            settled = 20 ∷ 51 ∷ [];
            busy = [];
            fares = 0 ∷ 10 ∷ 110 ∷ 20 ∷ 120 ∷ 25 ∷ 125 ∷ 30 ∷ 130 ∷ [];
            figures = 0 ∷ 2 ∷ 0 ∷ 0 ∷ 4 ∷ 4 ∷ 5 ∷ 3 ∷ [];
            table =
                rec 1 4294967295 0 255 2 0
                ∷ rec 2 4294967295 0 255 0 0
                ∷ rec 1 4294967295 0 255 16 4
                ∷ rec 2 10 110 0 0 0
                ∷ rec 1 4294967295 0 255 0 0
                ∷ rec 2 20 0 1 6 8
                ∷ rec 1 10 110 0 0 0
                ∷ rec 2 20 120 0 0 0
                ∷ rec 2 30 0 1 12 10
                ∷ rec 2 20 120 0 0 0
                ∷ rec 1 30 130 0 0 0
                ∷ rec 2 20 0 2 6 15
                ∷ rec 2 25 0 1 13 14
                ∷ rec 1 20 120 0 0 0
                ∷ rec 1 25 125 0 0 0
                ∷ rec 2 30 0 2 12 10
                ∷ rec 1 25 0 2 17 18
                ∷ rec 1 20 0 1 6 13
                ∷ rec 1 30 0 1 14 10
                ∷ [];
          });
    }
    -- 4: promote case 2, x on the left: 40, 30, 20 in falling order
    ∷ record {
      start = anew 24;
      lines =
          call (begin 0 PutIn 40 140) 0 0
          ∷ call (step 0 4) 3 0
          ∷ call (begin 0 PutIn 30 130) 0 0
          ∷ call (step 0 5) 3 0
          ∷ call (begin 0 PutIn 20 120) 0 0
          ∷ call (step 0 16) 3 0
          ∷ [];
      after =
          left (record {
            used = 12;
            root = 40 ∷ 2 ∷ [];
            settled = 20 ∷ [];
            busy = [];
            fares = 0 ∷ 20 ∷ 120 ∷ 30 ∷ 130 ∷ 40 ∷ 140 ∷ [];
            figures = 0 ∷ 2 ∷ 0 ∷ 0 ∷ 3 ∷ 3 ∷ 12 ∷ 2 ∷ [];
            table =
                rec 1 4294967295 0 255 2 0
                ∷ rec 2 4294967295 0 255 0 0
                ∷ rec 1 4294967295 0 255 11 4
                ∷ rec 2 40 140 0 0 0
                ∷ rec 1 4294967295 0 255 0 0
                ∷ rec 2 40 0 1 8 7
                ∷ rec 2 30 130 0 0 0
                ∷ rec 1 40 140 0 0 0
                ∷ rec 1 30 0 1 9 10
                ∷ rec 1 20 120 0 0 0
                ∷ rec 1 30 130 0 0 0
                ∷ rec 1 40 0 2 8 7
                ∷ [];
          });
    }
    -- 5: rotate case 1, x on the left: then 10
    ∷ record {
      start = onward;
      lines =
          call (begin 0 PutIn 10 110) 0 0
          ∷ call (step 0 25) 3 0
          ∷ [];
      after =
          left (record {
            used = 18;
            root = 30 ∷ 2 ∷ [];
            settled = 20 ∷ 30 ∷ [];
            busy = [];
            fares = 0 ∷ 10 ∷ 110 ∷ 20 ∷ 120 ∷ 30 ∷ 130 ∷ 40 ∷ 140 ∷ [];
            figures = 0 ∷ 2 ∷ 0 ∷ 0 ∷ 4 ∷ 4 ∷ 6 ∷ 3 ∷ [];
            table =
                rec 1 4294967295 0 255 2 0
                ∷ rec 2 4294967295 0 255 0 0
                ∷ rec 1 4294967295 0 255 16 4
                ∷ rec 2 40 140 0 0 0
                ∷ rec 1 4294967295 0 255 0 0
                ∷ rec 2 40 0 1 8 7
                ∷ rec 2 30 130 0 0 0
                ∷ rec 1 40 140 0 0 0
                ∷ rec 2 30 0 1 12 10
                ∷ rec 2 20 120 0 0 0
                ∷ rec 1 30 130 0 0 0
                ∷ rec 2 40 0 2 15 7
                ∷ rec 1 20 0 1 13 14
                ∷ rec 1 10 110 0 0 0
                ∷ rec 1 20 120 0 0 0
                ∷ rec 2 30 0 2 12 10
                ∷ rec 1 30 0 2 12 17
                ∷ rec 1 40 0 1 10 7
                ∷ [];
          });
    }
    -- 6: double rotation, x on the left: 35 in place of 10
    ∷ record {
      start = beside;
      lines =
          call (begin 0 PutIn 35 135) 0 0
          ∷ call (step 0 26) 3 0
          ∷ [];
      after =
          left (record {
            used = 19;
            root = 35 ∷ 2 ∷ [];
            settled = 21 ∷ 50 ∷ [];
            busy = [];
            fares = 0 ∷ 20 ∷ 120 ∷ 30 ∷ 130 ∷ 35 ∷ 135 ∷ 40 ∷ 140 ∷ [];
            figures = 0 ∷ 2 ∷ 0 ∷ 0 ∷ 4 ∷ 4 ∷ 5 ∷ 3 ∷ [];
            table =
                rec 1 4294967295 0 255 2 0
                ∷ rec 2 4294967295 0 255 0 0
                ∷ rec 1 4294967295 0 255 16 4
                ∷ rec 2 40 140 0 0 0
                ∷ rec 1 4294967295 0 255 0 0
                ∷ rec 2 40 0 1 8 7
                ∷ rec 2 30 130 0 0 0
                ∷ rec 1 40 140 0 0 0
                ∷ rec 2 30 0 1 9 12
                ∷ rec 1 20 120 0 0 0
                ∷ rec 2 30 130 0 0 0
                ∷ rec 2 40 0 2 15 7
                ∷ rec 2 35 0 1 13 14
                ∷ rec 1 30 130 0 0 0
                ∷ rec 1 35 135 0 0 0
                ∷ rec 2 30 0 2 9 12
                ∷ rec 1 35 0 2 17 18
                ∷ rec 1 30 0 1 9 13
                ∷ rec 1 40 0 1 14 7
                ∷ [];
          });
    }
    -- 7: promote case 1, then rotate case 2, x on the left: 10 and 35 committed, then 10 settles
    ∷ record {
      start = beside;
      lines =
          call (begin 0 PutIn 10 110) 0 0
          ∷ call (step 0 7) 0 0
          ∷ call (begin 1 PutIn 35 135) 0 0
          ∷ call (step 1 7) 0 0
          ∷ call (step 0 18) 3 0
          ∷ call (step 1 5) 3 0
          ∷ [];
      after =
          left (record {
            used = 21;
            root = 30 ∷ 3 ∷ [];
            settled = 10 ∷ 40 ∷ [];
            busy = [];
            fares = 0 ∷ 10 ∷ 110 ∷ 20 ∷ 120 ∷ 30 ∷ 130 ∷ 35 ∷ 135 ∷ 40 ∷ 140 ∷ [];
            figures = 0 ∷ 3 ∷ 0 ∷ 0 ∷ 5 ∷ 5 ∷ 3 ∷ 3 ∷ [];
            table =
                rec 1 4294967295 0 255 2 0
                ∷ rec 2 4294967295 0 255 0 0
                ∷ rec 1 4294967295 0 255 19 4
                ∷ rec 2 40 140 0 0 0
                ∷ rec 1 4294967295 0 255 0 0
                ∷ rec 2 40 0 1 8 7
                ∷ rec 2 30 130 0 0 0
                ∷ rec 1 40 140 0 0 0
                ∷ rec 2 30 0 1 12 15
                ∷ rec 2 20 120 0 0 0
                ∷ rec 2 30 130 0 0 0
                ∷ rec 2 40 0 2 18 7
                ∷ rec 1 20 0 1 13 14
                ∷ rec 1 10 110 0 0 0
                ∷ rec 1 20 120 0 0 0
                ∷ rec 1 35 0 1 16 17
                ∷ rec 1 30 130 0 0 0
                ∷ rec 1 35 135 0 0 0
                ∷ rec 2 30 0 2 12 15
                ∷ rec 1 30 0 3 12 20
                ∷ rec 1 40 0 2 15 7
                ∷ [];
          });
    }
    -- 8: promote case 1, x on the right: the same two, but 35 settles first
    ∷ record {
      start = beside;
      lines =
          call (begin 0 PutIn 10 110) 0 0
          ∷ call (step 0 7) 0 0
          ∷ call (begin 1 PutIn 35 135) 0 0
          ∷ call (step 1 14) 0 0
          ∷ [];
      after =
          left (record {
            used = 19;
            root = 40 ∷ 2 ∷ [];
            settled = 11 ∷ [];
            busy = 0 ∷ 1 ∷ [];
            fares = 0 ∷ 10 ∷ 110 ∷ 20 ∷ 120 ∷ 30 ∷ 130 ∷ 35 ∷ 135 ∷ 40 ∷ 140 ∷ [];
            figures = 0 ∷ 3 ∷ 1 ∷ 2 ∷ 5 ∷ 5 ∷ 5 ∷ 3 ∷ [];
            table =
                rec 1 4294967295 0 255 2 0
                ∷ rec 2 4294967295 0 255 0 0
                ∷ rec 1 4294967295 0 255 11 4
                ∷ rec 2 40 140 0 0 0
                ∷ rec 1 4294967295 0 255 0 0
                ∷ rec 2 40 0 1 8 7
                ∷ rec 2 30 130 0 0 0
                ∷ rec 1 40 140 0 0 0
                ∷ rec 2 30 0 1 12 15
                ∷ rec 2 20 120 0 0 0
                ∷ rec 2 30 130 0 0 0
                ∷ rec 1 40 0 2 18 7
                ∷ rec 1 20 0 1 13 14
                ∷ rec 1 10 110 0 0 0
                ∷ rec 1 20 120 0 0 0
                ∷ rec 1 35 0 1 16 17
                ∷ rec 1 30 130 0 0 0
                ∷ rec 1 35 135 0 0 0
                ∷ rec 1 30 0 2 12 15
                ∷ [];
          });
    }
    -- 9: from there both walk again, and the first to come rotates
    ∷ record {
      start = onward;
      lines =
          call (step 1 12) 3 0
          ∷ call (step 0 4) 3 0
          ∷ [];
      after =
          left (record {
            used = 21;
            root = 30 ∷ 3 ∷ [];
            settled = 40 ∷ [];
            busy = [];
            fares = 0 ∷ 10 ∷ 110 ∷ 20 ∷ 120 ∷ 30 ∷ 130 ∷ 35 ∷ 135 ∷ 40 ∷ 140 ∷ [];
            figures = 0 ∷ 3 ∷ 0 ∷ 0 ∷ 5 ∷ 5 ∷ 3 ∷ 3 ∷ [];
            table =
                rec 1 4294967295 0 255 2 0
                ∷ rec 2 4294967295 0 255 0 0
                ∷ rec 1 4294967295 0 255 19 4
                ∷ rec 2 40 140 0 0 0
                ∷ rec 1 4294967295 0 255 0 0
                ∷ rec 2 40 0 1 8 7
                ∷ rec 2 30 130 0 0 0
                ∷ rec 1 40 140 0 0 0
                ∷ rec 2 30 0 1 12 15
                ∷ rec 2 20 120 0 0 0
                ∷ rec 2 30 130 0 0 0
                ∷ rec 2 40 0 2 18 7
                ∷ rec 1 20 0 1 13 14
                ∷ rec 1 10 110 0 0 0
                ∷ rec 1 20 120 0 0 0
                ∷ rec 1 35 0 1 16 17
                ∷ rec 1 30 130 0 0 0
                ∷ rec 1 35 135 0 0 0
                ∷ rec 2 30 0 2 12 15
                ∷ rec 1 30 0 3 12 20
                ∷ rec 1 40 0 2 15 7
                ∷ [];
          });
    }
    -- 10: rotate case 2, x on the right: 10, 20, 30, then 25 and 40 committed before either settles
    ∷ record {
      start = anew 24;
      lines =
          call (begin 0 PutIn 10 110) 0 0
          ∷ call (step 0 4) 3 0
          ∷ call (begin 0 PutIn 20 120) 0 0
          ∷ call (step 0 5) 3 0
          ∷ call (begin 0 PutIn 30 130) 0 0
          ∷ call (step 0 16) 3 0
          ∷ call (begin 0 PutIn 25 125) 0 0
          ∷ call (step 0 7) 0 0
          ∷ call (begin 1 PutIn 40 140) 0 0
          ∷ call (step 1 7) 0 0
          ∷ call (step 1 18) 3 0
          ∷ call (step 0 5) 3 0
          ∷ [];
      after =
          left (record {
            used = 21;
            root = 30 ∷ 3 ∷ [];
            settled = 21 ∷ 11 ∷ 41 ∷ [];
            busy = [];
            fares = 0 ∷ 10 ∷ 110 ∷ 20 ∷ 120 ∷ 25 ∷ 125 ∷ 30 ∷ 130 ∷ 40 ∷ 140 ∷ [];
            figures = 0 ∷ 3 ∷ 0 ∷ 0 ∷ 5 ∷ 5 ∷ 3 ∷ 3 ∷ [];
            table =
                rec 1 4294967295 0 255 2 0
                ∷ rec 2 4294967295 0 255 0 0
                ∷ rec 1 4294967295 0 255 19 4
                ∷ rec 2 10 110 0 0 0
                ∷ rec 1 4294967295 0 255 0 0
                ∷ rec 2 20 0 1 6 8
                ∷ rec 1 10 110 0 0 0
                ∷ rec 2 20 120 0 0 0
                ∷ rec 2 30 0 1 12 15
                ∷ rec 2 20 120 0 0 0
                ∷ rec 2 30 130 0 0 0
                ∷ rec 2 20 0 2 6 18
                ∷ rec 1 25 0 1 13 14
                ∷ rec 1 20 120 0 0 0
                ∷ rec 1 25 125 0 0 0
                ∷ rec 1 40 0 1 16 17
                ∷ rec 1 30 130 0 0 0
                ∷ rec 1 40 140 0 0 0
                ∷ rec 2 30 0 2 12 15
                ∷ rec 1 30 0 3 20 15
                ∷ rec 1 20 0 2 6 12
                ∷ [];
          });
    }
    -- 11: base: 10 and 20 put in, 30 committed and not yet settled
    ∷ record {
      start = anew 24;
      lines =
          call (begin 0 PutIn 10 110) 0 0
          ∷ call (step 0 4) 3 0
          ∷ call (begin 0 PutIn 20 120) 0 0
          ∷ call (step 0 5) 3 0
          ∷ call (begin 1 PutIn 30 130) 0 0
          ∷ call (step 1 6) 0 0
          ∷ [];
      after =
          left (record {
            used = 11;
            root = 20 ∷ 1 ∷ [];
            settled = [];
            busy = 1 ∷ [];
            fares = 0 ∷ 10 ∷ 110 ∷ 20 ∷ 120 ∷ 30 ∷ 130 ∷ [];
            figures = 0 ∷ 2 ∷ 1 ∷ 1 ∷ 3 ∷ 3 ∷ 13 ∷ 2 ∷ [];
            table =
                rec 1 4294967295 0 255 2 0
                ∷ rec 2 4294967295 0 255 0 0
                ∷ rec 1 4294967295 0 255 5 4
                ∷ rec 2 10 110 0 0 0
                ∷ rec 1 4294967295 0 255 0 0
                ∷ rec 1 20 0 1 6 8
                ∷ rec 1 10 110 0 0 0
                ∷ rec 2 20 120 0 0 0
                ∷ rec 1 30 0 1 9 10
                ∷ rec 1 20 120 0 0 0
                ∷ rec 1 30 130 0 0 0
                ∷ [];
          });
    }
    -- 12: a put-in whose parent alone is taken off between its readings and its commit: the test sees the state
    ∷ record {
      start = onward;
      lines =
          call (begin 0 PutIn 5 105) 0 0
          ∷ call (step 0 5) 0 0
          ∷ call (step 1 6) 0 0
          ∷ call (step 0 1) 0 0
          ∷ call (step 0 6) 3 0
          ∷ call (step 1 4) 3 0
          ∷ [];
      after =
          left (record {
            used = 15;
            root = 20 ∷ 2 ∷ [];
            settled = 21 ∷ [];
            busy = [];
            fares = 0 ∷ 5 ∷ 105 ∷ 10 ∷ 110 ∷ 20 ∷ 120 ∷ 30 ∷ 130 ∷ [];
            figures = 0 ∷ 2 ∷ 0 ∷ 0 ∷ 4 ∷ 4 ∷ 9 ∷ 3 ∷ [];
            table =
                rec 1 4294967295 0 255 2 0
                ∷ rec 2 4294967295 0 255 0 0
                ∷ rec 1 4294967295 0 255 11 4
                ∷ rec 2 10 110 0 0 0
                ∷ rec 1 4294967295 0 255 0 0
                ∷ rec 2 20 0 1 6 8
                ∷ rec 2 10 110 0 0 0
                ∷ rec 2 20 120 0 0 0
                ∷ rec 1 30 0 1 9 10
                ∷ rec 1 20 120 0 0 0
                ∷ rec 1 30 130 0 0 0
                ∷ rec 1 20 0 2 12 8
                ∷ rec 1 10 0 1 13 14
                ∷ rec 1 5 105 0 0 0
                ∷ rec 1 10 110 0 0 0
                ∷ [];
          });
    }
    -- 13: the parent is taken off between arrival and its reading: the reading sees the state
    ∷ record {
      start = beside;
      lines =
          call (begin 0 PutIn 5 105) 0 0
          ∷ call (step 0 3) 0 0
          ∷ call (step 1 6) 0 0
          ∷ call (step 0 1) 0 0
          ∷ call (step 0 6) 3 0
          ∷ call (step 1 4) 3 0
          ∷ [];
      after =
          left (record {
            used = 15;
            root = 20 ∷ 2 ∷ [];
            settled = 21 ∷ [];
            busy = [];
            fares = 0 ∷ 5 ∷ 105 ∷ 10 ∷ 110 ∷ 20 ∷ 120 ∷ 30 ∷ 130 ∷ [];
            figures = 0 ∷ 2 ∷ 0 ∷ 0 ∷ 4 ∷ 4 ∷ 9 ∷ 3 ∷ [];
            table =
                rec 1 4294967295 0 255 2 0
                ∷ rec 2 4294967295 0 255 0 0
                ∷ rec 1 4294967295 0 255 11 4
                ∷ rec 2 10 110 0 0 0
                ∷ rec 1 4294967295 0 255 0 0
                ∷ rec 2 20 0 1 6 8
                ∷ rec 2 10 110 0 0 0
                ∷ rec 2 20 120 0 0 0
                ∷ rec 1 30 0 1 9 10
                ∷ rec 1 20 120 0 0 0
                ∷ rec 1 30 130 0 0 0
                ∷ rec 1 20 0 2 12 8
                ∷ rec 1 10 0 1 13 14
                ∷ rec 1 5 105 0 0 0
                ∷ rec 1 10 110 0 0 0
                ∷ [];
          });
    }
    -- 14: the parent is taken off between the two readings: the leaf's reading holds, the commit's test does not
    ∷ record {
      start = beside;
      lines =
          call (begin 0 PutIn 5 105) 0 0
          ∷ call (step 0 4) 0 0
          ∷ call (step 1 6) 0 0
          ∷ call (step 0 2) 0 0
          ∷ call (step 0 6) 3 0
          ∷ [];
      after =
          left (record {
            used = 15;
            root = 20 ∷ 2 ∷ [];
            settled = 21 ∷ [];
            busy = 1 ∷ [];
            fares = 0 ∷ 5 ∷ 105 ∷ 10 ∷ 110 ∷ 20 ∷ 120 ∷ 30 ∷ 130 ∷ [];
            figures = 0 ∷ 2 ∷ 0 ∷ 1 ∷ 4 ∷ 4 ∷ 9 ∷ 3 ∷ [];
            table =
                rec 1 4294967295 0 255 2 0
                ∷ rec 2 4294967295 0 255 0 0
                ∷ rec 1 4294967295 0 255 11 4
                ∷ rec 2 10 110 0 0 0
                ∷ rec 1 4294967295 0 255 0 0
                ∷ rec 2 20 0 1 6 8
                ∷ rec 2 10 110 0 0 0
                ∷ rec 2 20 120 0 0 0
                ∷ rec 1 30 0 1 9 10
                ∷ rec 1 20 120 0 0 0
                ∷ rec 1 30 130 0 0 0
                ∷ rec 1 20 0 2 12 8
                ∷ rec 1 10 0 1 13 14
                ∷ rec 1 5 105 0 0 0
                ∷ rec 1 10 110 0 0 0
                ∷ [];
          });
    }
    -- 15: nobody in the way: the commit is the sixth step, and z has two level children
    ∷ record {
      start = beside;
      lines =
          call (begin 0 PutIn 5 105) 0 0
          ∷ call (step 0 6) 0 0
          ∷ [];
      after =
          left (record {
            used = 14;
            root = 20 ∷ 1 ∷ [];
            settled = [];
            busy = 0 ∷ 1 ∷ [];
            fares = 0 ∷ 5 ∷ 105 ∷ 10 ∷ 110 ∷ 20 ∷ 120 ∷ 30 ∷ 130 ∷ [];
            figures = 0 ∷ 2 ∷ 2 ∷ 2 ∷ 4 ∷ 4 ∷ 10 ∷ 3 ∷ [];
            table =
                rec 1 4294967295 0 255 2 0
                ∷ rec 2 4294967295 0 255 0 0
                ∷ rec 1 4294967295 0 255 5 4
                ∷ rec 2 10 110 0 0 0
                ∷ rec 1 4294967295 0 255 0 0
                ∷ rec 1 20 0 1 11 8
                ∷ rec 2 10 110 0 0 0
                ∷ rec 2 20 120 0 0 0
                ∷ rec 1 30 0 1 9 10
                ∷ rec 1 20 120 0 0 0
                ∷ rec 1 30 130 0 0 0
                ∷ rec 1 10 0 1 12 13
                ∷ rec 1 5 105 0 0 0
                ∷ rec 1 10 110 0 0 0
                ∷ [];
          });
    }
    -- 16: a settling walk that ends at a taken-off leaf gives 3
    ∷ record {
      start = beside;
      lines =
          call (step 1 9) 0 0
          ∷ call (begin 0 TakeOut 30 0) 0 0
          ∷ call (step 0 9) 5 0
          ∷ call (step 1 1) 3 0
          ∷ [];
      after =
          left (record {
            used = 13;
            root = 20 ∷ 2 ∷ [];
            settled = 21 ∷ [];
            busy = [];
            fares = 0 ∷ 10 ∷ 110 ∷ 20 ∷ 120 ∷ [];
            figures = 0 ∷ 1 ∷ 0 ∷ 0 ∷ 3 ∷ 2 ∷ 11 ∷ 2 ∷ [];
            table =
                rec 1 4294967295 0 255 2 0
                ∷ rec 2 4294967295 0 255 0 0
                ∷ rec 1 4294967295 0 255 11 4
                ∷ rec 2 10 110 0 0 0
                ∷ rec 1 4294967295 0 255 0 0
                ∷ rec 2 20 0 1 6 8
                ∷ rec 1 10 110 0 0 0
                ∷ rec 2 20 120 0 0 0
                ∷ rec 2 30 0 1 9 10
                ∷ rec 2 20 120 0 0 0
                ∷ rec 2 30 130 0 0 0
                ∷ rec 1 20 0 2 6 12
                ∷ rec 1 20 120 0 0 0
                ∷ [];
          });
    }
    -- 17: abandoned while settling, 6; a later put-in finds the level record and settles it
    ∷ record {
      start = beside;
      lines =
          call (abandon 1) 6 0
          ∷ call (begin 0 PutIn 40 140) 0 0
          ∷ call (step 0 31) 3 0
          ∷ [];
      after =
          left (record {
            used = 18;
            root = 30 ∷ 2 ∷ [];
            settled = 21 ∷ 21 ∷ 31 ∷ [];
            busy = [];
            fares = 0 ∷ 10 ∷ 110 ∷ 20 ∷ 120 ∷ 30 ∷ 130 ∷ 40 ∷ 140 ∷ [];
            figures = 0 ∷ 2 ∷ 0 ∷ 1 ∷ 4 ∷ 4 ∷ 6 ∷ 3 ∷ [];
            table =
                rec 1 4294967295 0 255 2 0
                ∷ rec 2 4294967295 0 255 0 0
                ∷ rec 1 4294967295 0 255 16 4
                ∷ rec 2 10 110 0 0 0
                ∷ rec 1 4294967295 0 255 0 0
                ∷ rec 2 20 0 1 6 8
                ∷ rec 1 10 110 0 0 0
                ∷ rec 2 20 120 0 0 0
                ∷ rec 2 30 0 1 9 11
                ∷ rec 1 20 120 0 0 0
                ∷ rec 2 30 130 0 0 0
                ∷ rec 1 40 0 1 12 13
                ∷ rec 1 30 130 0 0 0
                ∷ rec 1 40 140 0 0 0
                ∷ rec 2 20 0 2 6 15
                ∷ rec 2 30 0 2 9 11
                ∷ rec 1 30 0 2 17 11
                ∷ rec 1 20 0 1 6 9
                ∷ [];
          });
    }
    -- 18: base: 10, 20, 30 put in and tidied
    ∷ record {
      start = anew 24;
      lines =
          call (begin 0 PutIn 10 110) 0 0
          ∷ call (step 0 4) 3 0
          ∷ call (begin 0 PutIn 20 120) 0 0
          ∷ call (step 0 5) 3 0
          ∷ call (begin 0 PutIn 30 130) 0 0
          ∷ call (step 0 16) 3 0
          ∷ call tidy 0 0
          ∷ [];
      after =
          left (record {
            used = 8;
            root = 20 ∷ 2 ∷ [];
            settled = 21 ∷ [];
            busy = [];
            fares = 0 ∷ 10 ∷ 110 ∷ 20 ∷ 120 ∷ 30 ∷ 130 ∷ [];
            figures = 0 ∷ 2 ∷ 0 ∷ 0 ∷ 3 ∷ 3 ∷ 16 ∷ 2 ∷ [];
            table =
                rec 1 4294967295 0 255 2 0
                ∷ rec 0 0 0 0 0 0
                ∷ rec 1 4294967295 0 255 11 4
                ∷ rec 0 0 0 0 0 0
                ∷ rec 1 4294967295 0 255 0 0
                ∷ rec 0 0 0 0 0 0
                ∷ rec 1 10 110 0 0 0
                ∷ rec 0 0 0 0 0 0
                ∷ rec 1 30 0 1 9 10
                ∷ rec 1 20 120 0 0 0
                ∷ rec 1 30 130 0 0 0
                ∷ rec 1 20 0 2 6 8
                ∷ [];
          });
    }
    -- 19: parent and leaf of a put-in taken off between its readings and its commit, by a take-out
    ∷ record {
      start = onward;
      lines =
          call (begin 0 PutIn 25 125) 0 0
          ∷ call (step 0 6) 0 0
          ∷ call (begin 1 TakeOut 30 0) 0 0
          ∷ call (step 1 9) 5 0
          ∷ call (step 0 1) 0 0
          ∷ call (step 0 6) 3 0
          ∷ [];
      after =
          left (record {
            used = 12;
            root = 20 ∷ 2 ∷ [];
            settled = [];
            busy = [];
            fares = 0 ∷ 10 ∷ 110 ∷ 20 ∷ 120 ∷ 25 ∷ 125 ∷ [];
            figures = 0 ∷ 2 ∷ 0 ∷ 0 ∷ 4 ∷ 3 ∷ 12 ∷ 3 ∷ [];
            table =
                rec 1 4294967295 0 255 2 0
                ∷ rec 2 20 120 0 0 0
                ∷ rec 1 4294967295 0 255 11 4
                ∷ rec 1 25 0 1 5 7
                ∷ rec 1 4294967295 0 255 0 0
                ∷ rec 1 20 120 0 0 0
                ∷ rec 1 10 110 0 0 0
                ∷ rec 1 25 125 0 0 0
                ∷ rec 2 30 0 1 9 10
                ∷ rec 2 20 120 0 0 0
                ∷ rec 2 30 130 0 0 0
                ∷ rec 1 20 0 2 6 3
                ∷ [];
          });
    }
    -- 20: the same between arrival and the parent's reading
    ∷ record {
      start = beside;
      lines =
          call (begin 0 PutIn 25 125) 0 0
          ∷ call (step 0 4) 0 0
          ∷ call (begin 1 TakeOut 30 0) 0 0
          ∷ call (step 1 9) 5 0
          ∷ call (step 0 1) 0 0
          ∷ call (step 0 6) 3 0
          ∷ [];
      after =
          left (record {
            used = 12;
            root = 20 ∷ 2 ∷ [];
            settled = [];
            busy = [];
            fares = 0 ∷ 10 ∷ 110 ∷ 20 ∷ 120 ∷ 25 ∷ 125 ∷ [];
            figures = 0 ∷ 2 ∷ 0 ∷ 0 ∷ 4 ∷ 3 ∷ 12 ∷ 3 ∷ [];
            table =
                rec 1 4294967295 0 255 2 0
                ∷ rec 2 20 120 0 0 0
                ∷ rec 1 4294967295 0 255 11 4
                ∷ rec 1 25 0 1 5 7
                ∷ rec 1 4294967295 0 255 0 0
                ∷ rec 1 20 120 0 0 0
                ∷ rec 1 10 110 0 0 0
                ∷ rec 1 25 125 0 0 0
                ∷ rec 2 30 0 1 9 10
                ∷ rec 2 20 120 0 0 0
                ∷ rec 2 30 130 0 0 0
                ∷ rec 1 20 0 2 6 3
                ∷ [];
          });
    }
    -- 21: the same between the parent's reading and the leaf's
    ∷ record {
      start = beside;
      lines =
          call (begin 0 PutIn 25 125) 0 0
          ∷ call (step 0 5) 0 0
          ∷ call (begin 1 TakeOut 30 0) 0 0
          ∷ call (step 1 9) 5 0
          ∷ call (step 0 1) 0 0
          ∷ call (step 0 6) 3 0
          ∷ [];
      after =
          left (record {
            used = 12;
            root = 20 ∷ 2 ∷ [];
            settled = [];
            busy = [];
            fares = 0 ∷ 10 ∷ 110 ∷ 20 ∷ 120 ∷ 25 ∷ 125 ∷ [];
            figures = 0 ∷ 2 ∷ 0 ∷ 0 ∷ 4 ∷ 3 ∷ 12 ∷ 3 ∷ [];
            table =
                rec 1 4294967295 0 255 2 0
                ∷ rec 2 20 120 0 0 0
                ∷ rec 1 4294967295 0 255 11 4
                ∷ rec 1 25 0 1 5 7
                ∷ rec 1 4294967295 0 255 0 0
                ∷ rec 1 20 120 0 0 0
                ∷ rec 1 10 110 0 0 0
                ∷ rec 1 25 125 0 0 0
                ∷ rec 2 30 0 1 9 10
                ∷ rec 2 20 120 0 0 0
                ∷ rec 2 30 130 0 0 0
                ∷ rec 1 20 0 2 6 3
                ∷ [];
          });
    }
    -- 22: two put-ins of one number, both read; the second one walks again and ends with 4
    ∷ record {
      start = beside;
      lines =
          call (begin 0 PutIn 25 125) 0 0
          ∷ call (begin 1 PutIn 25 525) 0 0
          ∷ call (step 0 6) 0 0
          ∷ call (step 1 6) 0 0
          ∷ call (step 0 1) 0 0
          ∷ call (step 1 1) 0 0
          ∷ call (step 1 5) 4 0
          ∷ call (begin 2 LookUp 25 0) 0 0
          ∷ call (step 2 5) 1 125
          ∷ [];
      after =
          left (record {
            used = 11;
            root = 20 ∷ 2 ∷ [];
            settled = [];
            busy = 0 ∷ [];
            fares = 0 ∷ 10 ∷ 110 ∷ 20 ∷ 120 ∷ 25 ∷ 125 ∷ 30 ∷ 130 ∷ [];
            figures = 0 ∷ 3 ∷ 1 ∷ 1 ∷ 4 ∷ 4 ∷ 13 ∷ 3 ∷ [];
            table =
                rec 1 4294967295 0 255 2 0
                ∷ rec 1 25 0 1 3 5
                ∷ rec 1 4294967295 0 255 11 4
                ∷ rec 1 20 120 0 0 0
                ∷ rec 1 4294967295 0 255 0 0
                ∷ rec 1 25 125 0 0 0
                ∷ rec 1 10 110 0 0 0
                ∷ rec 0 0 0 0 0 0
                ∷ rec 1 30 0 1 1 10
                ∷ rec 2 20 120 0 0 0
                ∷ rec 1 30 130 0 0 0
                ∷ rec 1 20 0 2 6 8
                ∷ [];
          });
    }
    -- 23: two put-ins of two numbers on one leaf, both read; the second one goes in below the first
    ∷ record {
      start = beside;
      lines =
          call (begin 0 PutIn 25 125) 0 0
          ∷ call (begin 1 PutIn 27 127) 0 0
          ∷ call (step 0 6) 0 0
          ∷ call (step 1 6) 0 0
          ∷ call (step 0 1) 0 0
          ∷ call (step 1 1) 0 0
          ∷ call (step 1 8) 0 0
          ∷ [];
      after =
          left (record {
            used = 14;
            root = 20 ∷ 2 ∷ [];
            settled = [];
            busy = 0 ∷ 1 ∷ [];
            fares = 0 ∷ 10 ∷ 110 ∷ 20 ∷ 120 ∷ 25 ∷ 125 ∷ 27 ∷ 127 ∷ 30 ∷ 130 ∷ [];
            figures = 0 ∷ 4 ∷ 2 ∷ 2 ∷ 5 ∷ 5 ∷ 10 ∷ 3 ∷ [];
            table =
                rec 1 4294967295 0 255 2 0
                ∷ rec 1 25 0 1 3 7
                ∷ rec 1 4294967295 0 255 11 4
                ∷ rec 1 20 120 0 0 0
                ∷ rec 1 4294967295 0 255 0 0
                ∷ rec 2 25 125 0 0 0
                ∷ rec 1 10 110 0 0 0
                ∷ rec 1 27 0 1 12 13
                ∷ rec 1 30 0 1 1 10
                ∷ rec 2 20 120 0 0 0
                ∷ rec 1 30 130 0 0 0
                ∷ rec 1 20 0 2 6 8
                ∷ rec 1 25 125 0 0 0
                ∷ rec 1 27 127 0 0 0
                ∷ [];
          });
    }
    -- 24: the same, and both settle the level chain
    ∷ record {
      start = beside;
      lines =
          call (begin 0 PutIn 25 125) 0 0
          ∷ call (begin 1 PutIn 27 127) 0 0
          ∷ call (step 0 6) 0 0
          ∷ call (step 1 6) 0 0
          ∷ call (step 0 1) 0 0
          ∷ call (step 1 9) 0 0
          ∷ call (step 1 33) 3 0
          ∷ call (step 0 5) 3 0
          ∷ [];
      after =
          left (record {
            used = 20;
            root = 25 ∷ 3 ∷ [];
            settled = 20 ∷ 51 ∷ 20 ∷ 21 ∷ [];
            busy = [];
            fares = 0 ∷ 10 ∷ 110 ∷ 20 ∷ 120 ∷ 25 ∷ 125 ∷ 27 ∷ 127 ∷ 30 ∷ 130 ∷ [];
            figures = 0 ∷ 3 ∷ 0 ∷ 0 ∷ 5 ∷ 5 ∷ 4 ∷ 3 ∷ [];
            table =
                rec 1 4294967295 0 255 2 0
                ∷ rec 2 25 0 1 3 7
                ∷ rec 1 4294967295 0 255 19 4
                ∷ rec 1 20 120 0 0 0
                ∷ rec 1 4294967295 0 255 0 0
                ∷ rec 2 25 125 0 0 0
                ∷ rec 1 10 110 0 0 0
                ∷ rec 1 27 0 1 12 13
                ∷ rec 2 30 0 1 1 10
                ∷ rec 2 20 120 0 0 0
                ∷ rec 1 30 130 0 0 0
                ∷ rec 2 20 0 2 6 14
                ∷ rec 1 25 125 0 0 0
                ∷ rec 1 27 127 0 0 0
                ∷ rec 2 30 0 2 1 10
                ∷ rec 2 25 0 2 16 18
                ∷ rec 1 20 0 1 6 3
                ∷ rec 2 30 0 1 7 10
                ∷ rec 1 30 0 2 7 10
                ∷ rec 1 25 0 3 16 18
                ∷ [];
          });
    }
    -- 25: two take-outs of one number, both read; the second one ends with 2
    ∷ record {
      start = beside;
      lines =
          call (begin 0 TakeOut 30 0) 0 0
          ∷ call (begin 1 TakeOut 30 0) 0 0
          ∷ call (step 0 8) 0 0
          ∷ call (step 1 8) 0 0
          ∷ call (step 0 1) 5 0
          ∷ call (step 1 1) 0 0
          ∷ call (step 1 3) 2 0
          ∷ [];
      after =
          left (record {
            used = 9;
            root = 20 ∷ 2 ∷ [];
            settled = [];
            busy = [];
            fares = 0 ∷ 10 ∷ 110 ∷ 20 ∷ 120 ∷ [];
            figures = 0 ∷ 1 ∷ 0 ∷ 0 ∷ 3 ∷ 2 ∷ 15 ∷ 2 ∷ [];
            table =
                rec 1 4294967295 0 255 2 0
                ∷ rec 1 20 120 0 0 0
                ∷ rec 1 4294967295 0 255 11 4
                ∷ rec 0 0 0 0 0 0
                ∷ rec 1 4294967295 0 255 0 0
                ∷ rec 0 0 0 0 0 0
                ∷ rec 1 10 110 0 0 0
                ∷ rec 0 0 0 0 0 0
                ∷ rec 2 30 0 1 9 10
                ∷ rec 2 20 120 0 0 0
                ∷ rec 2 30 130 0 0 0
                ∷ rec 1 20 0 2 6 1
                ∷ [];
          });
    }
    -- 26: two take-outs of sibling leaves, both read; the second one walks again and takes out
    ∷ record {
      start = beside;
      lines =
          call (begin 0 TakeOut 30 0) 0 0
          ∷ call (begin 1 TakeOut 20 0) 0 0
          ∷ call (step 0 8) 0 0
          ∷ call (step 1 8) 0 0
          ∷ call (step 0 1) 5 0
          ∷ call (step 1 1) 0 0
          ∷ call (step 1 8) 5 0
          ∷ [];
      after =
          left (record {
            used = 10;
            root = 10 ∷ 0 ∷ [];
            settled = [];
            busy = [];
            fares = 0 ∷ 10 ∷ 110 ∷ [];
            figures = 0 ∷ 0 ∷ 0 ∷ 0 ∷ 3 ∷ 1 ∷ 14 ∷ 2 ∷ [];
            table =
                rec 1 4294967295 0 255 2 0
                ∷ rec 2 20 120 0 0 0
                ∷ rec 1 4294967295 0 255 3 4
                ∷ rec 1 10 110 0 0 0
                ∷ rec 1 4294967295 0 255 0 0
                ∷ rec 0 0 0 0 0 0
                ∷ rec 2 10 110 0 0 0
                ∷ rec 0 0 0 0 0 0
                ∷ rec 2 30 0 1 9 10
                ∷ rec 2 20 120 0 0 0
                ∷ rec 2 30 130 0 0 0
                ∷ rec 2 20 0 2 6 1
                ∷ [];
          });
    }
    -- 27: a take-out whose sibling is taken off between its reading and the commit, by a put-in
    ∷ record {
      start = beside;
      lines =
          call (begin 0 TakeOut 30 0) 0 0
          ∷ call (step 0 8) 0 0
          ∷ call (begin 1 PutIn 25 125) 0 0
          ∷ call (step 1 7) 0 0
          ∷ call (step 0 1) 0 0
          ∷ call (step 0 9) 5 0
          ∷ call (step 1 4) 3 0
          ∷ [];
      after =
          left (record {
            used = 12;
            root = 20 ∷ 2 ∷ [];
            settled = [];
            busy = [];
            fares = 0 ∷ 10 ∷ 110 ∷ 20 ∷ 120 ∷ 25 ∷ 125 ∷ [];
            figures = 0 ∷ 2 ∷ 0 ∷ 0 ∷ 4 ∷ 3 ∷ 12 ∷ 3 ∷ [];
            table =
                rec 1 4294967295 0 255 2 0
                ∷ rec 2 25 0 1 3 5
                ∷ rec 1 4294967295 0 255 11 4
                ∷ rec 1 20 120 0 0 0
                ∷ rec 1 4294967295 0 255 0 0
                ∷ rec 1 25 125 0 0 0
                ∷ rec 1 10 110 0 0 0
                ∷ rec 1 25 0 1 3 5
                ∷ rec 2 30 0 1 1 10
                ∷ rec 2 20 120 0 0 0
                ∷ rec 2 30 130 0 0 0
                ∷ rec 1 20 0 2 6 7
                ∷ [];
          });
    }
    -- 28: the sibling is taken off between the parent's reading and its own: noted links lead to it still, its state ends the reading
    ∷ record {
      start = beside;
      lines =
          call (begin 0 TakeOut 30 0) 0 0
          ∷ call (step 0 6) 0 0
          ∷ call (begin 1 PutIn 25 125) 0 0
          ∷ call (step 1 7) 0 0
          ∷ call (step 0 1) 0 0
          ∷ call (step 0 9) 5 0
          ∷ [];
      after =
          left (record {
            used = 12;
            root = 20 ∷ 2 ∷ [];
            settled = [];
            busy = 1 ∷ [];
            fares = 0 ∷ 10 ∷ 110 ∷ 20 ∷ 120 ∷ 25 ∷ 125 ∷ [];
            figures = 0 ∷ 2 ∷ 0 ∷ 1 ∷ 4 ∷ 3 ∷ 12 ∷ 3 ∷ [];
            table =
                rec 1 4294967295 0 255 2 0
                ∷ rec 2 25 0 1 3 5
                ∷ rec 1 4294967295 0 255 11 4
                ∷ rec 1 20 120 0 0 0
                ∷ rec 1 4294967295 0 255 0 0
                ∷ rec 1 25 125 0 0 0
                ∷ rec 1 10 110 0 0 0
                ∷ rec 1 25 0 1 3 5
                ∷ rec 2 30 0 1 1 10
                ∷ rec 2 20 120 0 0 0
                ∷ rec 2 30 130 0 0 0
                ∷ rec 1 20 0 2 6 7
                ∷ [];
          });
    }
    -- 29: a take-out whose sibling stays but leads elsewhere at the commit: the copy must not bring old links back
    ∷ record {
      start = beside;
      lines =
          call (begin 0 TakeOut 10 0) 0 0
          ∷ call (step 0 7) 0 0
          ∷ call (begin 1 PutIn 40 140) 0 0
          ∷ call (step 1 7) 0 0
          ∷ call (step 0 1) 0 0
          ∷ call (step 0 8) 5 0
          ∷ call (step 1 10) 3 0
          ∷ [];
      after =
          left (record {
            used = 13;
            root = 30 ∷ 2 ∷ [];
            settled = 21 ∷ [];
            busy = [];
            fares = 0 ∷ 20 ∷ 120 ∷ 30 ∷ 130 ∷ 40 ∷ 140 ∷ [];
            figures = 0 ∷ 2 ∷ 0 ∷ 0 ∷ 4 ∷ 3 ∷ 11 ∷ 3 ∷ [];
            table =
                rec 1 4294967295 0 255 2 0
                ∷ rec 1 40 0 1 3 5
                ∷ rec 1 4294967295 0 255 12 4
                ∷ rec 1 30 130 0 0 0
                ∷ rec 1 4294967295 0 255 0 0
                ∷ rec 1 40 140 0 0 0
                ∷ rec 2 10 110 0 0 0
                ∷ rec 2 30 0 1 9 1
                ∷ rec 2 30 0 1 9 1
                ∷ rec 1 20 120 0 0 0
                ∷ rec 2 30 130 0 0 0
                ∷ rec 2 20 0 2 6 8
                ∷ rec 1 30 0 2 9 1
                ∷ [];
          });
    }
    -- 30: a take-out whose grandparent is taken off between its reading and the commit
    ∷ record {
      start = beside;
      lines =
          call (begin 0 TakeOut 30 0) 0 0
          ∷ call (step 0 8) 0 0
          ∷ call (begin 1 TakeOut 10 0) 0 0
          ∷ call (step 1 8) 5 0
          ∷ call (step 0 1) 0 0
          ∷ call (step 0 8) 5 0
          ∷ [];
      after =
          left (record {
            used = 10;
            root = 20 ∷ 0 ∷ [];
            settled = [];
            busy = [];
            fares = 0 ∷ 20 ∷ 120 ∷ [];
            figures = 0 ∷ 0 ∷ 0 ∷ 0 ∷ 3 ∷ 1 ∷ 14 ∷ 2 ∷ [];
            table =
                rec 1 4294967295 0 255 2 0
                ∷ rec 2 30 0 1 9 10
                ∷ rec 1 4294967295 0 255 3 4
                ∷ rec 1 20 120 0 0 0
                ∷ rec 1 4294967295 0 255 0 0
                ∷ rec 0 0 0 0 0 0
                ∷ rec 2 10 110 0 0 0
                ∷ rec 0 0 0 0 0 0
                ∷ rec 2 30 0 1 9 10
                ∷ rec 2 20 120 0 0 0
                ∷ rec 2 30 130 0 0 0
                ∷ rec 2 20 0 2 6 8
                ∷ [];
          });
    }
    -- 31: a settling task whose z is taken off between the readings of pz and z
    ∷ record {
      start = beside;
      lines =
          call (begin 1 PutIn 25 125) 0 0
          ∷ call (step 1 7) 0 0
          ∷ call (begin 2 PutIn 40 140) 0 0
          ∷ call (step 2 12) 0 0
          ∷ call (step 1 7) 0 0
          ∷ call (step 2 1) 0 0
          ∷ call (step 2 11) 3 0
          ∷ [];
      after =
          left (record {
            used = 17;
            root = 30 ∷ 3 ∷ [];
            settled = 10 ∷ 41 ∷ [];
            busy = 1 ∷ [];
            fares = 0 ∷ 10 ∷ 110 ∷ 20 ∷ 120 ∷ 25 ∷ 125 ∷ 30 ∷ 130 ∷ 40 ∷ 140 ∷ [];
            figures = 0 ∷ 3 ∷ 0 ∷ 1 ∷ 5 ∷ 5 ∷ 7 ∷ 3 ∷ [];
            table =
                rec 1 4294967295 0 255 2 0
                ∷ rec 1 25 0 1 3 5
                ∷ rec 1 4294967295 0 255 15 4
                ∷ rec 1 20 120 0 0 0
                ∷ rec 1 4294967295 0 255 0 0
                ∷ rec 1 25 125 0 0 0
                ∷ rec 1 10 110 0 0 0
                ∷ rec 1 40 0 1 12 13
                ∷ rec 2 30 0 1 1 7
                ∷ rec 2 20 120 0 0 0
                ∷ rec 2 30 130 0 0 0
                ∷ rec 2 20 0 2 6 14
                ∷ rec 1 30 130 0 0 0
                ∷ rec 1 40 140 0 0 0
                ∷ rec 2 30 0 2 1 7
                ∷ rec 1 30 0 3 16 7
                ∷ rec 1 20 0 2 6 1
                ∷ [];
          });
    }
    -- 32: z taken off between arrival and the reading of pz: pz's links do not lead to z any more
    ∷ record {
      start = beside;
      lines =
          call (begin 1 PutIn 25 125) 0 0
          ∷ call (step 1 7) 0 0
          ∷ call (begin 2 PutIn 40 140) 0 0
          ∷ call (step 2 11) 0 0
          ∷ call (step 1 7) 0 0
          ∷ call (step 2 1) 0 0
          ∷ call (step 2 11) 3 0
          ∷ [];
      after =
          left (record {
            used = 17;
            root = 30 ∷ 3 ∷ [];
            settled = 10 ∷ 41 ∷ [];
            busy = 1 ∷ [];
            fares = 0 ∷ 10 ∷ 110 ∷ 20 ∷ 120 ∷ 25 ∷ 125 ∷ 30 ∷ 130 ∷ 40 ∷ 140 ∷ [];
            figures = 0 ∷ 3 ∷ 0 ∷ 1 ∷ 5 ∷ 5 ∷ 7 ∷ 3 ∷ [];
            table =
                rec 1 4294967295 0 255 2 0
                ∷ rec 1 25 0 1 3 5
                ∷ rec 1 4294967295 0 255 15 4
                ∷ rec 1 20 120 0 0 0
                ∷ rec 1 4294967295 0 255 0 0
                ∷ rec 1 25 125 0 0 0
                ∷ rec 1 10 110 0 0 0
                ∷ rec 1 40 0 1 12 13
                ∷ rec 2 30 0 1 1 7
                ∷ rec 2 20 120 0 0 0
                ∷ rec 2 30 130 0 0 0
                ∷ rec 2 20 0 2 6 14
                ∷ rec 1 30 130 0 0 0
                ∷ rec 1 40 140 0 0 0
                ∷ rec 2 30 0 2 1 7
                ∷ rec 1 30 0 3 16 7
                ∷ rec 1 20 0 2 6 1
                ∷ [];
          });
    }
    -- 33: z taken off between its reading and the commit of a promote
    ∷ record {
      start = beside;
      lines =
          call (begin 1 PutIn 25 125) 0 0
          ∷ call (step 1 7) 0 0
          ∷ call (begin 2 PutIn 40 140) 0 0
          ∷ call (step 2 13) 0 0
          ∷ call (step 1 7) 0 0
          ∷ call (step 2 1) 0 0
          ∷ call (step 2 11) 3 0
          ∷ [];
      after =
          left (record {
            used = 17;
            root = 30 ∷ 3 ∷ [];
            settled = 10 ∷ 41 ∷ [];
            busy = 1 ∷ [];
            fares = 0 ∷ 10 ∷ 110 ∷ 20 ∷ 120 ∷ 25 ∷ 125 ∷ 30 ∷ 130 ∷ 40 ∷ 140 ∷ [];
            figures = 0 ∷ 3 ∷ 0 ∷ 1 ∷ 5 ∷ 5 ∷ 7 ∷ 3 ∷ [];
            table =
                rec 1 4294967295 0 255 2 0
                ∷ rec 1 25 0 1 3 5
                ∷ rec 1 4294967295 0 255 15 4
                ∷ rec 1 20 120 0 0 0
                ∷ rec 1 4294967295 0 255 0 0
                ∷ rec 1 25 125 0 0 0
                ∷ rec 1 10 110 0 0 0
                ∷ rec 1 40 0 1 12 13
                ∷ rec 2 30 0 1 1 7
                ∷ rec 2 20 120 0 0 0
                ∷ rec 2 30 130 0 0 0
                ∷ rec 2 20 0 2 6 14
                ∷ rec 1 30 130 0 0 0
                ∷ rec 1 40 140 0 0 0
                ∷ rec 2 30 0 2 1 7
                ∷ rec 1 30 0 3 16 7
                ∷ rec 1 20 0 2 6 1
                ∷ [];
          });
    }
    -- 34: x taken off between its reading and the commit of a rotation: the loser walks again
    ∷ record {
      start = beside;
      lines =
          call (begin 1 PutIn 25 125) 0 0
          ∷ call (step 1 7) 0 0
          ∷ call (begin 2 PutIn 40 140) 0 0
          ∷ call (step 2 7) 0 0
          ∷ call (step 1 13) 0 0
          ∷ call (step 2 6) 0 0
          ∷ call (step 2 1) 0 0
          ∷ call (step 1 1) 0 0
          ∷ call (step 1 5) 3 0
          ∷ call (step 2 4) 3 0
          ∷ [];
      after =
          left (record {
            used = 17;
            root = 30 ∷ 3 ∷ [];
            settled = 10 ∷ 41 ∷ [];
            busy = [];
            fares = 0 ∷ 10 ∷ 110 ∷ 20 ∷ 120 ∷ 25 ∷ 125 ∷ 30 ∷ 130 ∷ 40 ∷ 140 ∷ [];
            figures = 0 ∷ 3 ∷ 0 ∷ 0 ∷ 5 ∷ 5 ∷ 7 ∷ 3 ∷ [];
            table =
                rec 1 4294967295 0 255 2 0
                ∷ rec 1 25 0 1 3 5
                ∷ rec 1 4294967295 0 255 15 4
                ∷ rec 1 20 120 0 0 0
                ∷ rec 1 4294967295 0 255 0 0
                ∷ rec 1 25 125 0 0 0
                ∷ rec 1 10 110 0 0 0
                ∷ rec 1 40 0 1 12 13
                ∷ rec 2 30 0 1 1 7
                ∷ rec 2 20 120 0 0 0
                ∷ rec 2 30 130 0 0 0
                ∷ rec 2 20 0 2 6 14
                ∷ rec 1 30 130 0 0 0
                ∷ rec 1 40 140 0 0 0
                ∷ rec 2 30 0 2 1 7
                ∷ rec 1 30 0 3 16 7
                ∷ rec 1 20 0 2 6 1
                ∷ [];
          });
    }
    -- 35: a link of x alone changes between its reading and the commit of a rotation: the test sees the links
    ∷ record {
      start = beside;
      lines =
          call (begin 1 PutIn 25 125) 0 0
          ∷ call (step 1 7) 0 0
          ∷ call (begin 2 PutIn 40 140) 0 0
          ∷ call (step 2 7) 0 0
          ∷ call (step 1 13) 0 0
          ∷ call (begin 3 TakeOut 30 0) 0 0
          ∷ call (step 3 10) 5 0
          ∷ call (step 1 1) 0 0
          ∷ [];
      after =
          left (record {
            used = 16;
            root = 20 ∷ 2 ∷ [];
            settled = 10 ∷ [];
            busy = 1 ∷ 2 ∷ [];
            fares = 0 ∷ 10 ∷ 110 ∷ 20 ∷ 120 ∷ 25 ∷ 125 ∷ 40 ∷ 140 ∷ [];
            figures = 0 ∷ 3 ∷ 1 ∷ 2 ∷ 5 ∷ 4 ∷ 8 ∷ 3 ∷ [];
            table =
                rec 1 4294967295 0 255 2 0
                ∷ rec 1 25 0 1 3 5
                ∷ rec 1 4294967295 0 255 11 4
                ∷ rec 1 20 120 0 0 0
                ∷ rec 1 4294967295 0 255 0 0
                ∷ rec 1 25 125 0 0 0
                ∷ rec 1 10 110 0 0 0
                ∷ rec 2 40 0 1 12 13
                ∷ rec 2 30 0 1 1 7
                ∷ rec 2 20 120 0 0 0
                ∷ rec 2 30 130 0 0 0
                ∷ rec 1 20 0 2 6 14
                ∷ rec 2 30 130 0 0 0
                ∷ rec 2 40 140 0 0 0
                ∷ rec 1 30 0 2 1 15
                ∷ rec 1 40 140 0 0 0
                ∷ [];
          });
    }
    -- 36: a look up standing on a taken-off record ends at a taken-off leaf, found with its price
    ∷ record {
      start = beside;
      lines =
          call (begin 0 LookUp 30 0) 0 0
          ∷ call (step 0 3) 0 0
          ∷ call (begin 1 TakeOut 30 0) 0 0
          ∷ call (step 1 9) 5 0
          ∷ call (step 0 1) 1 130
          ∷ call (begin 0 LookUp 30 0) 0 0
          ∷ call (step 0 3) 2 0
          ∷ [];
      after =
          left (record {
            used = 9;
            root = 20 ∷ 2 ∷ [];
            settled = [];
            busy = [];
            fares = 0 ∷ 10 ∷ 110 ∷ 20 ∷ 120 ∷ [];
            figures = 0 ∷ 1 ∷ 0 ∷ 0 ∷ 3 ∷ 2 ∷ 15 ∷ 2 ∷ [];
            table =
                rec 1 4294967295 0 255 2 0
                ∷ rec 1 20 120 0 0 0
                ∷ rec 1 4294967295 0 255 11 4
                ∷ rec 0 0 0 0 0 0
                ∷ rec 1 4294967295 0 255 0 0
                ∷ rec 0 0 0 0 0 0
                ∷ rec 1 10 110 0 0 0
                ∷ rec 0 0 0 0 0 0
                ∷ rec 2 30 0 1 9 10
                ∷ rec 2 20 120 0 0 0
                ∷ rec 2 30 130 0 0 0
                ∷ rec 1 20 0 2 6 1
                ∷ [];
          });
    }
    -- 37: a put-in of that number there ends with 4
    ∷ record {
      start = beside;
      lines =
          call (begin 0 PutIn 30 530) 0 0
          ∷ call (step 0 3) 0 0
          ∷ call (begin 1 TakeOut 30 0) 0 0
          ∷ call (step 1 9) 5 0
          ∷ call (step 0 1) 4 0
          ∷ [];
      after =
          left (record {
            used = 9;
            root = 20 ∷ 2 ∷ [];
            settled = [];
            busy = [];
            fares = 0 ∷ 10 ∷ 110 ∷ 20 ∷ 120 ∷ [];
            figures = 0 ∷ 1 ∷ 0 ∷ 0 ∷ 3 ∷ 2 ∷ 15 ∷ 2 ∷ [];
            table =
                rec 1 4294967295 0 255 2 0
                ∷ rec 1 20 120 0 0 0
                ∷ rec 1 4294967295 0 255 11 4
                ∷ rec 0 0 0 0 0 0
                ∷ rec 1 4294967295 0 255 0 0
                ∷ rec 0 0 0 0 0 0
                ∷ rec 1 10 110 0 0 0
                ∷ rec 0 0 0 0 0 0
                ∷ rec 2 30 0 1 9 10
                ∷ rec 2 20 120 0 0 0
                ∷ rec 2 30 130 0 0 0
                ∷ rec 1 20 0 2 6 1
                ∷ [];
          });
    }
    -- 38: a take-out of that number there goes on to its readings, walks again and ends with 2
    ∷ record {
      start = beside;
      lines =
          call (begin 0 TakeOut 30 0) 0 0
          ∷ call (step 0 3) 0 0
          ∷ call (begin 1 TakeOut 30 0) 0 0
          ∷ call (step 1 9) 5 0
          ∷ call (step 0 1) 0 0
          ∷ call (step 0 1) 0 0
          ∷ call (step 0 3) 2 0
          ∷ [];
      after =
          left (record {
            used = 9;
            root = 20 ∷ 2 ∷ [];
            settled = [];
            busy = [];
            fares = 0 ∷ 10 ∷ 110 ∷ 20 ∷ 120 ∷ [];
            figures = 0 ∷ 1 ∷ 0 ∷ 0 ∷ 3 ∷ 2 ∷ 15 ∷ 2 ∷ [];
            table =
                rec 1 4294967295 0 255 2 0
                ∷ rec 1 20 120 0 0 0
                ∷ rec 1 4294967295 0 255 11 4
                ∷ rec 0 0 0 0 0 0
                ∷ rec 1 4294967295 0 255 0 0
                ∷ rec 0 0 0 0 0 0
                ∷ rec 1 10 110 0 0 0
                ∷ rec 0 0 0 0 0 0
                ∷ rec 2 30 0 1 9 10
                ∷ rec 2 20 120 0 0 0
                ∷ rec 2 30 130 0 0 0
                ∷ rec 1 20 0 2 6 1
                ∷ [];
          });
    }
    -- 39: a look up and a take-out of another number end with 2 at a taken-off leaf
    ∷ record {
      start = beside;
      lines =
          call (begin 0 LookUp 35 0) 0 0
          ∷ call (begin 2 TakeOut 35 0) 0 0
          ∷ call (step 0 3) 0 0
          ∷ call (step 2 3) 0 0
          ∷ call (begin 1 TakeOut 30 0) 0 0
          ∷ call (step 1 9) 5 0
          ∷ call (step 0 1) 2 0
          ∷ call (step 2 1) 2 0
          ∷ [];
      after =
          left (record {
            used = 9;
            root = 20 ∷ 2 ∷ [];
            settled = [];
            busy = [];
            fares = 0 ∷ 10 ∷ 110 ∷ 20 ∷ 120 ∷ [];
            figures = 0 ∷ 1 ∷ 0 ∷ 0 ∷ 3 ∷ 2 ∷ 15 ∷ 2 ∷ [];
            table =
                rec 1 4294967295 0 255 2 0
                ∷ rec 1 20 120 0 0 0
                ∷ rec 1 4294967295 0 255 11 4
                ∷ rec 0 0 0 0 0 0
                ∷ rec 1 4294967295 0 255 0 0
                ∷ rec 0 0 0 0 0 0
                ∷ rec 1 10 110 0 0 0
                ∷ rec 0 0 0 0 0 0
                ∷ rec 2 30 0 1 9 10
                ∷ rec 2 20 120 0 0 0
                ∷ rec 2 30 130 0 0 0
                ∷ rec 1 20 0 2 6 1
                ∷ [];
          });
    }
    -- 40: a walk through z, x and y, all taken off by a double rotation, to a leaf still in the tree
    ∷ record {
      start = beside;
      lines =
          call (begin 0 PutIn 25 125) 0 0
          ∷ call (step 0 21) 0 0
          ∷ call (begin 1 LookUp 25 0) 0 0
          ∷ call (step 1 2) 0 0
          ∷ call (step 0 1) 0 0
          ∷ call (step 1 2) 0 0
          ∷ call (step 1 1) 1 125
          ∷ call (step 0 4) 3 0
          ∷ [];
      after =
          left (record {
            used = 15;
            root = 25 ∷ 2 ∷ [];
            settled = 20 ∷ 51 ∷ [];
            busy = [];
            fares = 0 ∷ 10 ∷ 110 ∷ 20 ∷ 120 ∷ 25 ∷ 125 ∷ 30 ∷ 130 ∷ [];
            figures = 0 ∷ 2 ∷ 0 ∷ 0 ∷ 4 ∷ 4 ∷ 9 ∷ 3 ∷ [];
            table =
                rec 1 4294967295 0 255 2 0
                ∷ rec 2 25 0 1 3 5
                ∷ rec 1 4294967295 0 255 12 4
                ∷ rec 1 20 120 0 0 0
                ∷ rec 1 4294967295 0 255 0 0
                ∷ rec 1 25 125 0 0 0
                ∷ rec 1 10 110 0 0 0
                ∷ rec 2 30 0 2 1 10
                ∷ rec 2 30 0 1 1 10
                ∷ rec 2 20 120 0 0 0
                ∷ rec 1 30 130 0 0 0
                ∷ rec 2 20 0 2 6 7
                ∷ rec 1 25 0 2 13 14
                ∷ rec 1 20 0 1 6 3
                ∷ rec 1 30 0 1 5 10
                ∷ [];
          });
    }
    -- 41: the same to a leaf that a take-out has taken off meanwhile
    ∷ record {
      start = beside;
      lines =
          call (begin 0 PutIn 25 125) 0 0
          ∷ call (step 0 21) 0 0
          ∷ call (begin 1 LookUp 25 0) 0 0
          ∷ call (step 1 2) 0 0
          ∷ call (step 0 5) 3 0
          ∷ call (begin 2 TakeOut 25 0) 0 0
          ∷ call (step 2 9) 5 0
          ∷ call (step 1 2) 0 0
          ∷ call (step 1 1) 1 125
          ∷ [];
      after =
          left (record {
            used = 16;
            root = 25 ∷ 2 ∷ [];
            settled = 20 ∷ 51 ∷ [];
            busy = [];
            fares = 0 ∷ 10 ∷ 110 ∷ 20 ∷ 120 ∷ 30 ∷ 130 ∷ [];
            figures = 0 ∷ 2 ∷ 0 ∷ 0 ∷ 4 ∷ 3 ∷ 8 ∷ 3 ∷ [];
            table =
                rec 1 4294967295 0 255 2 0
                ∷ rec 2 25 0 1 3 5
                ∷ rec 1 4294967295 0 255 12 4
                ∷ rec 1 20 120 0 0 0
                ∷ rec 1 4294967295 0 255 0 0
                ∷ rec 2 25 125 0 0 0
                ∷ rec 1 10 110 0 0 0
                ∷ rec 2 30 0 2 1 10
                ∷ rec 2 30 0 1 1 10
                ∷ rec 2 20 120 0 0 0
                ∷ rec 2 30 130 0 0 0
                ∷ rec 2 20 0 2 6 7
                ∷ rec 1 25 0 2 13 15
                ∷ rec 1 20 0 1 6 3
                ∷ rec 2 30 0 1 5 10
                ∷ rec 1 30 130 0 0 0
                ∷ [];
          });
    }
    -- 42: abandon before the commit answers 0 and leaves table, m and u as they were
    ∷ record {
      start = beside;
      lines =
          call (begin 0 PutIn 25 125) 0 0
          ∷ call (step 0 6) 0 0
          ∷ call (abandon 0) 0 0
          ∷ [];
      after =
          left (record {
            used = 8;
            root = 20 ∷ 2 ∷ [];
            settled = [];
            busy = [];
            fares = 0 ∷ 10 ∷ 110 ∷ 20 ∷ 120 ∷ 30 ∷ 130 ∷ [];
            figures = 0 ∷ 2 ∷ 0 ∷ 0 ∷ 3 ∷ 3 ∷ 16 ∷ 2 ∷ [];
            table =
                rec 1 4294967295 0 255 2 0
                ∷ rec 0 0 0 0 0 0
                ∷ rec 1 4294967295 0 255 11 4
                ∷ rec 0 0 0 0 0 0
                ∷ rec 1 4294967295 0 255 0 0
                ∷ rec 0 0 0 0 0 0
                ∷ rec 1 10 110 0 0 0
                ∷ rec 0 0 0 0 0 0
                ∷ rec 1 30 0 1 9 10
                ∷ rec 1 20 120 0 0 0
                ∷ rec 1 30 130 0 0 0
                ∷ rec 1 20 0 2 6 8
                ∷ [];
          });
    }
    -- 43: the fares are taken out one by one, and the table is empty as after a reset, but for m
    ∷ record {
      start = beside;
      lines =
          call (begin 0 TakeOut 10 0) 0 0
          ∷ call (step 0 8) 5 0
          ∷ call (begin 0 TakeOut 20 0) 0 0
          ∷ call (step 0 8) 5 0
          ∷ call (begin 0 TakeOut 30 0) 0 0
          ∷ call (step 0 7) 5 0
          ∷ call (begin 0 LookUp 30 0) 0 0
          ∷ call (step 0 1) 2 0
          ∷ call tidy 0 0
          ∷ [];
      after =
          left (record {
            used = 2;
            root = 0 ∷ 0 ∷ [];
            settled = [];
            busy = [];
            fares = 0 ∷ [];
            figures = 0 ∷ 0 ∷ 0 ∷ 0 ∷ 3 ∷ 0 ∷ 22 ∷ 2 ∷ [];
            table =
                rec 1 4294967295 0 255 5 0
                ∷ rec 0 0 0 0 0 0
                ∷ rec 0 0 0 0 0 0
                ∷ rec 0 0 0 0 0 0
                ∷ rec 0 0 0 0 0 0
                ∷ rec 1 4294967295 0 255 0 0
                ∷ [];
          });
    }
    -- 44: tidy, and the freed slots are used again, lowest first: 25 goes to slots 1, 3 and 5
    ∷ record {
      start = beside;
      lines =
          call (begin 0 PutIn 25 125) 0 0
          ∷ call (step 0 7) 0 0
          ∷ [];
      after =
          left (record {
            used = 11;
            root = 20 ∷ 2 ∷ [];
            settled = [];
            busy = 0 ∷ [];
            fares = 0 ∷ 10 ∷ 110 ∷ 20 ∷ 120 ∷ 25 ∷ 125 ∷ 30 ∷ 130 ∷ [];
            figures = 0 ∷ 3 ∷ 1 ∷ 1 ∷ 4 ∷ 4 ∷ 13 ∷ 3 ∷ [];
            table =
                rec 1 4294967295 0 255 2 0
                ∷ rec 1 25 0 1 3 5
                ∷ rec 1 4294967295 0 255 11 4
                ∷ rec 1 20 120 0 0 0
                ∷ rec 1 4294967295 0 255 0 0
                ∷ rec 1 25 125 0 0 0
                ∷ rec 1 10 110 0 0 0
                ∷ rec 0 0 0 0 0 0
                ∷ rec 1 30 0 1 1 10
                ∷ rec 2 20 120 0 0 0
                ∷ rec 1 30 130 0 0 0
                ∷ rec 1 20 0 2 6 8
                ∷ [];
          });
    }
    -- 45: slots are not used again while nobody tidies: 10 out and in again
    ∷ record {
      start = beside;
      lines =
          call (begin 0 TakeOut 10 0) 0 0
          ∷ call (step 0 8) 5 0
          ∷ call (begin 0 PutIn 10 111) 0 0
          ∷ call (step 0 16) 3 0
          ∷ [];
      after =
          left (record {
            used = 13;
            root = 30 ∷ 2 ∷ [];
            settled = 20 ∷ [];
            busy = [];
            fares = 0 ∷ 10 ∷ 111 ∷ 20 ∷ 120 ∷ 30 ∷ 130 ∷ [];
            figures = 0 ∷ 2 ∷ 0 ∷ 0 ∷ 4 ∷ 3 ∷ 11 ∷ 3 ∷ [];
            table =
                rec 1 4294967295 0 255 2 0
                ∷ rec 2 30 0 1 3 10
                ∷ rec 1 4294967295 0 255 12 4
                ∷ rec 1 20 0 1 5 7
                ∷ rec 1 4294967295 0 255 0 0
                ∷ rec 1 10 111 0 0 0
                ∷ rec 2 10 110 0 0 0
                ∷ rec 1 20 120 0 0 0
                ∷ rec 2 30 0 1 9 10
                ∷ rec 2 20 120 0 0 0
                ∷ rec 1 30 130 0 0 0
                ∷ rec 2 20 0 2 6 8
                ∷ rec 1 30 0 2 3 10
                ∷ [];
          });
    }
    -- 46: base: eight slots, 10 and 20 put in, no slot free
    ∷ record {
      start = anew 8;
      lines =
          call (begin 0 PutIn 10 110) 0 0
          ∷ call (step 0 4) 3 0
          ∷ call (begin 0 PutIn 20 120) 0 0
          ∷ call (step 0 5) 3 0
          ∷ [];
      after =
          left (record {
            used = 8;
            root = 20 ∷ 1 ∷ [];
            settled = [];
            busy = [];
            fares = 0 ∷ 10 ∷ 110 ∷ 20 ∷ 120 ∷ [];
            figures = 0 ∷ 1 ∷ 0 ∷ 0 ∷ 2 ∷ 2 ∷ 0 ∷ 1 ∷ [];
            table =
                rec 1 4294967295 0 255 2 0
                ∷ rec 2 4294967295 0 255 0 0
                ∷ rec 1 4294967295 0 255 5 4
                ∷ rec 2 10 110 0 0 0
                ∷ rec 1 4294967295 0 255 0 0
                ∷ rec 1 20 0 1 6 7
                ∷ rec 1 10 110 0 0 0
                ∷ rec 1 20 120 0 0 0
                ∷ [];
          });
    }
    -- 47: 10 from begin: task 8
    ∷ record {
      start = onward;
      lines =
          call (begin 8 PutIn 30 130) 10 0
          ∷ [];
      after = same;
    }
    -- 48: task 7 is the last one
    ∷ record {
      start = beside;
      lines =
          call (begin 7 PutIn 30 130) 0 0
          ∷ [];
      after =
          left (record {
            used = 8;
            root = 20 ∷ 1 ∷ [];
            settled = [];
            busy = 7 ∷ [];
            fares = 0 ∷ 10 ∷ 110 ∷ 20 ∷ 120 ∷ [];
            figures = 0 ∷ 1 ∷ 0 ∷ 0 ∷ 2 ∷ 2 ∷ 0 ∷ 1 ∷ [];
            table =
                rec 1 4294967295 0 255 2 0
                ∷ rec 2 4294967295 0 255 0 0
                ∷ rec 1 4294967295 0 255 5 4
                ∷ rec 2 10 110 0 0 0
                ∷ rec 1 4294967295 0 255 0 0
                ∷ rec 1 20 0 1 6 7
                ∷ rec 1 10 110 0 0 0
                ∷ rec 1 20 120 0 0 0
                ∷ [];
          });
    }
    -- 49: 10 from begin: task 4,294,967,295, a look up
    ∷ record {
      start = beside;
      lines =
          call (begin 4294967295 LookUp 10 0) 10 0
          ∷ [];
      after = same;
    }
    -- 50: 10 from step
    ∷ record {
      start = beside;
      lines =
          call (step 8 1) 10 0
          ∷ [];
      after = same;
    }
    -- 51: 10 from abandon
    ∷ record {
      start = beside;
      lines =
          call (abandon 8) 10 0
          ∷ [];
      after = same;
    }
    -- 52: 11, a put-in's number
    ∷ record {
      start = beside;
      lines =
          call (begin 0 PutIn 1000000 130) 11 0
          ∷ [];
      after = same;
    }
    -- 53: 11, a put-in of the sentinels' number
    ∷ record {
      start = beside;
      lines =
          call (begin 0 PutIn 4294967295 130) 11 0
          ∷ [];
      after = same;
    }
    -- 54: 11, a put-in's price
    ∷ record {
      start = beside;
      lines =
          call (begin 0 PutIn 30 100000) 11 0
          ∷ [];
      after = same;
    }
    -- 55: the largest number and price are accepted
    ∷ record {
      start = beside;
      lines =
          call (begin 0 PutIn 999999 99999) 0 0
          ∷ [];
      after =
          left (record {
            used = 8;
            root = 20 ∷ 1 ∷ [];
            settled = [];
            busy = 0 ∷ [];
            fares = 0 ∷ 10 ∷ 110 ∷ 20 ∷ 120 ∷ [];
            figures = 0 ∷ 1 ∷ 0 ∷ 0 ∷ 2 ∷ 2 ∷ 0 ∷ 1 ∷ [];
            table =
                rec 1 4294967295 0 255 2 0
                ∷ rec 2 4294967295 0 255 0 0
                ∷ rec 1 4294967295 0 255 5 4
                ∷ rec 2 10 110 0 0 0
                ∷ rec 1 4294967295 0 255 0 0
                ∷ rec 1 20 0 1 6 7
                ∷ rec 1 10 110 0 0 0
                ∷ rec 1 20 120 0 0 0
                ∷ [];
          });
    }
    -- 56: the smallest number and price are accepted
    ∷ record {
      start = beside;
      lines =
          call (begin 0 PutIn 0 0) 0 0
          ∷ [];
      after =
          left (record {
            used = 8;
            root = 20 ∷ 1 ∷ [];
            settled = [];
            busy = 0 ∷ [];
            fares = 0 ∷ 10 ∷ 110 ∷ 20 ∷ 120 ∷ [];
            figures = 0 ∷ 1 ∷ 0 ∷ 0 ∷ 2 ∷ 2 ∷ 0 ∷ 1 ∷ [];
            table =
                rec 1 4294967295 0 255 2 0
                ∷ rec 2 4294967295 0 255 0 0
                ∷ rec 1 4294967295 0 255 5 4
                ∷ rec 2 10 110 0 0 0
                ∷ rec 1 4294967295 0 255 0 0
                ∷ rec 1 20 0 1 6 7
                ∷ rec 1 10 110 0 0 0
                ∷ rec 1 20 120 0 0 0
                ∷ [];
          });
    }
    -- 57: 11, a look up's number
    ∷ record {
      start = beside;
      lines =
          call (begin 0 LookUp 1000000 0) 11 0
          ∷ [];
      after = same;
    }
    -- 58: 11, a look up with a price
    ∷ record {
      start = beside;
      lines =
          call (begin 0 LookUp 10 1) 11 0
          ∷ [];
      after = same;
    }
    -- 59: 11, a take-out's number
    ∷ record {
      start = beside;
      lines =
          call (begin 0 TakeOut 1000000 0) 11 0
          ∷ [];
      after = same;
    }
    -- 60: 11, a take-out with a price
    ∷ record {
      start = beside;
      lines =
          call (begin 0 TakeOut 10 1) 11 0
          ∷ [];
      after = same;
    }
    -- 61: look up and take-out without a price are accepted
    ∷ record {
      start = beside;
      lines =
          call (begin 0 LookUp 10 0) 0 0
          ∷ call (begin 1 TakeOut 10 0) 0 0
          ∷ [];
      after =
          left (record {
            used = 8;
            root = 20 ∷ 1 ∷ [];
            settled = [];
            busy = 0 ∷ 1 ∷ [];
            fares = 0 ∷ 10 ∷ 110 ∷ 20 ∷ 120 ∷ [];
            figures = 0 ∷ 1 ∷ 0 ∷ 0 ∷ 2 ∷ 2 ∷ 0 ∷ 1 ∷ [];
            table =
                rec 1 4294967295 0 255 2 0
                ∷ rec 2 4294967295 0 255 0 0
                ∷ rec 1 4294967295 0 255 5 4
                ∷ rec 2 10 110 0 0 0
                ∷ rec 1 4294967295 0 255 0 0
                ∷ rec 1 20 0 1 6 7
                ∷ rec 1 10 110 0 0 0
                ∷ rec 1 20 120 0 0 0
                ∷ [];
          });
    }
    -- 62: 12, begin on a busy task
    ∷ record {
      start = beside;
      lines =
          call (begin 0 LookUp 10 0) 0 0
          ∷ call (begin 0 LookUp 10 0) 12 0
          ∷ [];
      after = same;
    }
    -- 63: 12, the task is on its way
    ∷ record {
      start = beside;
      lines =
          call (begin 0 LookUp 10 0) 0 0
          ∷ call (step 0 2) 0 0
          ∷ call (begin 0 PutIn 30 130) 12 0
          ∷ [];
      after = same;
    }
    -- 64: after its end the task begins again
    ∷ record {
      start = beside;
      lines =
          call (begin 0 LookUp 10 0) 0 0
          ∷ call (step 0 3) 1 110
          ∷ call (begin 0 TakeOut 10 0) 0 0
          ∷ [];
      after =
          left (record {
            used = 8;
            root = 20 ∷ 1 ∷ [];
            settled = [];
            busy = 0 ∷ [];
            fares = 0 ∷ 10 ∷ 110 ∷ 20 ∷ 120 ∷ [];
            figures = 0 ∷ 1 ∷ 0 ∷ 0 ∷ 2 ∷ 2 ∷ 0 ∷ 1 ∷ [];
            table =
                rec 1 4294967295 0 255 2 0
                ∷ rec 2 4294967295 0 255 0 0
                ∷ rec 1 4294967295 0 255 5 4
                ∷ rec 2 10 110 0 0 0
                ∷ rec 1 4294967295 0 255 0 0
                ∷ rec 1 20 0 1 6 7
                ∷ rec 1 10 110 0 0 0
                ∷ rec 1 20 120 0 0 0
                ∷ [];
          });
    }
    -- 65: 13 from step
    ∷ record {
      start = beside;
      lines =
          call (step 0 1) 13 0
          ∷ [];
      after = same;
    }
    -- 66: 13 from abandon
    ∷ record {
      start = beside;
      lines =
          call (abandon 0) 13 0
          ∷ [];
      after = same;
    }
    -- 67: 13, only another task is busy
    ∷ record {
      start = beside;
      lines =
          call (begin 1 LookUp 10 0) 0 0
          ∷ call (step 0 1) 13 0
          ∷ [];
      after = same;
    }
    -- 68: abandon of a look up answers 0
    ∷ record {
      start = beside;
      lines =
          call (begin 0 LookUp 10 0) 0 0
          ∷ call (step 0 2) 0 0
          ∷ call (abandon 0) 0 0
          ∷ [];
      after =
          left (record {
            used = 8;
            root = 20 ∷ 1 ∷ [];
            settled = [];
            busy = [];
            fares = 0 ∷ 10 ∷ 110 ∷ 20 ∷ 120 ∷ [];
            figures = 0 ∷ 1 ∷ 0 ∷ 0 ∷ 2 ∷ 2 ∷ 0 ∷ 1 ∷ [];
            table =
                rec 1 4294967295 0 255 2 0
                ∷ rec 2 4294967295 0 255 0 0
                ∷ rec 1 4294967295 0 255 5 4
                ∷ rec 2 10 110 0 0 0
                ∷ rec 1 4294967295 0 255 0 0
                ∷ rec 1 20 0 1 6 7
                ∷ rec 1 10 110 0 0 0
                ∷ rec 1 20 120 0 0 0
                ∷ [];
          });
    }
    -- 69: 14, tidy with task 7 busy
    ∷ record {
      start = beside;
      lines =
          call (begin 7 LookUp 10 0) 0 0
          ∷ call tidy 14 0
          ∷ [];
      after = same;
    }
    -- 70: with all tasks idle tidy is made: two slots are free
    ∷ record {
      start = beside;
      lines =
          call tidy 0 0
          ∷ [];
      after =
          left (record {
            used = 6;
            root = 20 ∷ 1 ∷ [];
            settled = [];
            busy = [];
            fares = 0 ∷ 10 ∷ 110 ∷ 20 ∷ 120 ∷ [];
            figures = 0 ∷ 1 ∷ 0 ∷ 0 ∷ 2 ∷ 2 ∷ 2 ∷ 1 ∷ [];
            table =
                rec 1 4294967295 0 255 2 0
                ∷ rec 0 0 0 0 0 0
                ∷ rec 1 4294967295 0 255 5 4
                ∷ rec 0 0 0 0 0 0
                ∷ rec 1 4294967295 0 255 0 0
                ∷ rec 1 20 0 1 6 7
                ∷ rec 1 10 110 0 0 0
                ∷ rec 1 20 120 0 0 0
                ∷ [];
          });
    }
    -- 71: tidy twice changes nothing more
    ∷ record {
      start = beside;
      lines =
          call tidy 0 0
          ∷ call tidy 0 0
          ∷ [];
      after = same;
    }
    -- 72: 15 at the commit of a put-in, the task is idle
    ∷ record {
      start = beside;
      lines =
          call (begin 0 PutIn 30 130) 0 0
          ∷ call (step 0 5) 0 0
          ∷ call (step 0 1) 15 0
          ∷ [];
      after =
          left (record {
            used = 8;
            root = 20 ∷ 1 ∷ [];
            settled = [];
            busy = [];
            fares = 0 ∷ 10 ∷ 110 ∷ 20 ∷ 120 ∷ [];
            figures = 0 ∷ 1 ∷ 0 ∷ 0 ∷ 2 ∷ 2 ∷ 0 ∷ 1 ∷ [];
            table =
                rec 1 4294967295 0 255 2 0
                ∷ rec 2 4294967295 0 255 0 0
                ∷ rec 1 4294967295 0 255 5 4
                ∷ rec 2 10 110 0 0 0
                ∷ rec 1 4294967295 0 255 0 0
                ∷ rec 1 20 0 1 6 7
                ∷ rec 1 10 110 0 0 0
                ∷ rec 1 20 120 0 0 0
                ∷ [];
          });
    }
    -- 73: 15 at the commit of a put-in with two slots free
    ∷ record {
      start = beside;
      lines =
          call tidy 0 0
          ∷ call (begin 0 PutIn 30 130) 0 0
          ∷ call (step 0 6) 15 0
          ∷ [];
      after =
          left (record {
            used = 6;
            root = 20 ∷ 1 ∷ [];
            settled = [];
            busy = [];
            fares = 0 ∷ 10 ∷ 110 ∷ 20 ∷ 120 ∷ [];
            figures = 0 ∷ 1 ∷ 0 ∷ 0 ∷ 2 ∷ 2 ∷ 2 ∷ 1 ∷ [];
            table =
                rec 1 4294967295 0 255 2 0
                ∷ rec 0 0 0 0 0 0
                ∷ rec 1 4294967295 0 255 5 4
                ∷ rec 0 0 0 0 0 0
                ∷ rec 1 4294967295 0 255 0 0
                ∷ rec 1 20 0 1 6 7
                ∷ rec 1 10 110 0 0 0
                ∷ rec 1 20 120 0 0 0
                ∷ [];
          });
    }
    -- 74: 15 at the commit of a take-out, the task is idle
    ∷ record {
      start = beside;
      lines =
          call (begin 0 TakeOut 10 0) 0 0
          ∷ call (step 0 7) 0 0
          ∷ call (step 0 1) 15 0
          ∷ [];
      after =
          left (record {
            used = 8;
            root = 20 ∷ 1 ∷ [];
            settled = [];
            busy = [];
            fares = 0 ∷ 10 ∷ 110 ∷ 20 ∷ 120 ∷ [];
            figures = 0 ∷ 1 ∷ 0 ∷ 0 ∷ 2 ∷ 2 ∷ 0 ∷ 1 ∷ [];
            table =
                rec 1 4294967295 0 255 2 0
                ∷ rec 2 4294967295 0 255 0 0
                ∷ rec 1 4294967295 0 255 5 4
                ∷ rec 2 10 110 0 0 0
                ∷ rec 1 4294967295 0 255 0 0
                ∷ rec 1 20 0 1 6 7
                ∷ rec 1 10 110 0 0 0
                ∷ rec 1 20 120 0 0 0
                ∷ [];
          });
    }
    -- 75: one free slot is enough for a take-out
    ∷ record {
      start = beside;
      lines =
          call tidy 0 0
          ∷ call (begin 0 TakeOut 10 0) 0 0
          ∷ call (step 0 8) 5 0
          ∷ [];
      after =
          left (record {
            used = 7;
            root = 20 ∷ 0 ∷ [];
            settled = [];
            busy = [];
            fares = 0 ∷ 20 ∷ 120 ∷ [];
            figures = 0 ∷ 0 ∷ 0 ∷ 0 ∷ 2 ∷ 1 ∷ 1 ∷ 1 ∷ [];
            table =
                rec 1 4294967295 0 255 2 0
                ∷ rec 1 20 120 0 0 0
                ∷ rec 1 4294967295 0 255 1 4
                ∷ rec 0 0 0 0 0 0
                ∷ rec 1 4294967295 0 255 0 0
                ∷ rec 2 20 0 1 6 7
                ∷ rec 2 10 110 0 0 0
                ∷ rec 2 20 120 0 0 0
                ∷ [];
          });
    }
    -- 76: 15 from list: three numbers for two fares
    ∷ record {
      start = beside;
      lines =
          call (list 3) 15 0
          ∷ [];
      after = same;
    }
    -- 77: four numbers are enough
    ∷ record {
      start = beside;
      lines =
          call (list 4) 0 0
          ∷ [];
      after = same;
    }
    -- 78: a list of more room than is needed
    ∷ record {
      start = beside;
      lines =
          call (list 9) 0 0
          ∷ [];
      after = same;
    }
    -- 79: figures change nothing
    ∷ record {
      start = beside;
      lines =
          call figures 0 0
          ∷ [];
      after = same;
    }
    -- 80: 16 at the commit of a put-in, the task is idle; 16 comes before 15
    ∷ record {
      start = beside;
      lines =
          damage (m_is 1000000)
          ∷ call (begin 0 PutIn 30 130) 0 0
          ∷ call (step 0 5) 0 0
          ∷ call (step 0 1) 16 0
          ∷ [];
      after =
          left (record {
            used = 8;
            root = 20 ∷ 1 ∷ [];
            settled = [];
            busy = [];
            fares = 0 ∷ 10 ∷ 110 ∷ 20 ∷ 120 ∷ [];
            figures = 0 ∷ 1 ∷ 0 ∷ 0 ∷ 1000000 ∷ 2 ∷ 0 ∷ 28 ∷ [];
            table =
                rec 1 4294967295 0 255 2 0
                ∷ rec 2 4294967295 0 255 0 0
                ∷ rec 1 4294967295 0 255 5 4
                ∷ rec 2 10 110 0 0 0
                ∷ rec 1 4294967295 0 255 0 0
                ∷ rec 1 20 0 1 6 7
                ∷ rec 1 10 110 0 0 0
                ∷ rec 1 20 120 0 0 0
                ∷ [];
          });
    }
    -- 81: with one put-in less it is 15
    ∷ record {
      start = beside;
      lines =
          damage (m_is 999999)
          ∷ call (begin 0 PutIn 30 130) 0 0
          ∷ call (step 0 6) 15 0
          ∷ [];
      after =
          left (record {
            used = 8;
            root = 20 ∷ 1 ∷ [];
            settled = [];
            busy = [];
            fares = 0 ∷ 10 ∷ 110 ∷ 20 ∷ 120 ∷ [];
            figures = 0 ∷ 1 ∷ 0 ∷ 0 ∷ 999999 ∷ 2 ∷ 0 ∷ 28 ∷ [];
            table =
                rec 1 4294967295 0 255 2 0
                ∷ rec 2 4294967295 0 255 0 0
                ∷ rec 1 4294967295 0 255 5 4
                ∷ rec 2 10 110 0 0 0
                ∷ rec 1 4294967295 0 255 0 0
                ∷ rec 1 20 0 1 6 7
                ∷ rec 1 10 110 0 0 0
                ∷ rec 1 20 120 0 0 0
                ∷ [];
          });
    }
    -- 82: 16 with room enough
    ∷ record {
      start = beside;
      lines =
          damage (length_is 96)
          ∷ damage (m_is 1000000)
          ∷ call (begin 0 PutIn 30 130) 0 0
          ∷ call (step 0 6) 16 0
          ∷ [];
      after =
          left (record {
            used = 8;
            root = 20 ∷ 1 ∷ [];
            settled = [];
            busy = [];
            fares = 0 ∷ 10 ∷ 110 ∷ 20 ∷ 120 ∷ [];
            figures = 0 ∷ 1 ∷ 0 ∷ 0 ∷ 1000000 ∷ 2 ∷ 8 ∷ 28 ∷ [];
            table =
                rec 1 4294967295 0 255 2 0
                ∷ rec 2 4294967295 0 255 0 0
                ∷ rec 1 4294967295 0 255 5 4
                ∷ rec 2 10 110 0 0 0
                ∷ rec 1 4294967295 0 255 0 0
                ∷ rec 1 20 0 1 6 7
                ∷ rec 1 10 110 0 0 0
                ∷ rec 1 20 120 0 0 0
                ∷ [];
          });
    }
    -- 83: the last put-in that is allowed
    ∷ record {
      start = beside;
      lines =
          damage (length_is 96)
          ∷ damage (m_is 999999)
          ∷ call (begin 0 PutIn 5 105) 0 0
          ∷ call (step 0 6) 0 0
          ∷ [];
      after =
          left (record {
            used = 11;
            root = 20 ∷ 1 ∷ [];
            settled = [];
            busy = 0 ∷ [];
            fares = 0 ∷ 5 ∷ 105 ∷ 10 ∷ 110 ∷ 20 ∷ 120 ∷ [];
            figures = 0 ∷ 2 ∷ 1 ∷ 1 ∷ 1000000 ∷ 3 ∷ 5 ∷ 28 ∷ [];
            table =
                rec 1 4294967295 0 255 2 0
                ∷ rec 2 4294967295 0 255 0 0
                ∷ rec 1 4294967295 0 255 5 4
                ∷ rec 2 10 110 0 0 0
                ∷ rec 1 4294967295 0 255 0 0
                ∷ rec 1 20 0 1 8 7
                ∷ rec 2 10 110 0 0 0
                ∷ rec 1 20 120 0 0 0
                ∷ rec 1 10 0 1 9 10
                ∷ rec 1 5 105 0 0 0
                ∷ rec 1 10 110 0 0 0
                ∷ [];
          });
    }
    -- 84: at the limit a settling commit is made all the same
    ∷ record {
      start = onward;
      lines =
          call (step 0 6) 0 0
          ∷ [];
      after =
          left (record {
            used = 12;
            root = 20 ∷ 2 ∷ [];
            settled = 20 ∷ [];
            busy = 0 ∷ [];
            fares = 0 ∷ 5 ∷ 105 ∷ 10 ∷ 110 ∷ 20 ∷ 120 ∷ [];
            figures = 0 ∷ 2 ∷ 0 ∷ 1 ∷ 1000000 ∷ 3 ∷ 4 ∷ 28 ∷ [];
            table =
                rec 1 4294967295 0 255 2 0
                ∷ rec 2 4294967295 0 255 0 0
                ∷ rec 1 4294967295 0 255 11 4
                ∷ rec 2 10 110 0 0 0
                ∷ rec 1 4294967295 0 255 0 0
                ∷ rec 2 20 0 1 8 7
                ∷ rec 2 10 110 0 0 0
                ∷ rec 1 20 120 0 0 0
                ∷ rec 1 10 0 1 9 10
                ∷ rec 1 5 105 0 0 0
                ∷ rec 1 10 110 0 0 0
                ∷ rec 1 20 0 2 8 7
                ∷ [];
          });
    }
    -- 85: at the limit a take-out is made all the same
    ∷ record {
      start = beside;
      lines =
          call (abandon 0) 6 0
          ∷ call (begin 0 TakeOut 5 0) 0 0
          ∷ call (step 0 9) 5 0
          ∷ [];
      after =
          left (record {
            used = 12;
            root = 20 ∷ 1 ∷ [];
            settled = [];
            busy = [];
            fares = 0 ∷ 10 ∷ 110 ∷ 20 ∷ 120 ∷ [];
            figures = 0 ∷ 1 ∷ 0 ∷ 1 ∷ 1000000 ∷ 2 ∷ 4 ∷ 28 ∷ [];
            table =
                rec 1 4294967295 0 255 2 0
                ∷ rec 2 4294967295 0 255 0 0
                ∷ rec 1 4294967295 0 255 5 4
                ∷ rec 2 10 110 0 0 0
                ∷ rec 1 4294967295 0 255 0 0
                ∷ rec 1 20 0 1 11 7
                ∷ rec 2 10 110 0 0 0
                ∷ rec 1 20 120 0 0 0
                ∷ rec 2 10 0 1 9 10
                ∷ rec 2 5 105 0 0 0
                ∷ rec 2 10 110 0 0 0
                ∷ rec 1 10 110 0 0 0
                ∷ [];
          });
    }
    -- 86: 18 from begin: 47 numbers
    ∷ record {
      start = anew 8;
      lines =
          damage (length_is 47)
          ∷ call (begin 0 PutIn 10 110) 18 0
          ∷ [];
      after = same;
    }
    -- 87: 18 from step
    ∷ record {
      start = beside;
      lines =
          call (begin 0 LookUp 10 0) 0 0
          ∷ damage (length_is 47)
          ∷ call (step 0 1) 18 0
          ∷ [];
      after = same;
    }
    -- 88: 18 from abandon
    ∷ record {
      start = beside;
      lines =
          call (begin 0 LookUp 10 0) 0 0
          ∷ damage (length_is 47)
          ∷ call (abandon 0) 18 0
          ∷ [];
      after = same;
    }
    -- 89: 18 from tidy
    ∷ record {
      start = beside;
      lines =
          damage (length_is 47)
          ∷ call tidy 18 0
          ∷ [];
      after = same;
    }
    -- 90: 18 from figures
    ∷ record {
      start = beside;
      lines =
          damage (length_is 47)
          ∷ call figures 18 0
          ∷ [];
      after = same;
    }
    -- 91: 18 from list
    ∷ record {
      start = beside;
      lines =
          damage (length_is 47)
          ∷ call (list 4) 18 0
          ∷ [];
      after = same;
    }
    -- 92: 18, seven slots
    ∷ record {
      start = beside;
      lines =
          damage (length_is 42)
          ∷ call figures 18 0
          ∷ [];
      after = same;
    }
    -- 93: 18, eight slots and a number over
    ∷ record {
      start = beside;
      lines =
          damage (length_is 49)
          ∷ call figures 18 0
          ∷ [];
      after = same;
    }
    -- 94: 18, no table at all
    ∷ record {
      start = beside;
      lines =
          damage (length_is 0)
          ∷ call figures 18 0
          ∷ [];
      after = same;
    }
    -- 95: nine slots are a table
    ∷ record {
      start = beside;
      lines =
          damage (length_is 54)
          ∷ call figures 0 0
          ∷ [];
      after = same;
    }
    -- 96: 6 by abandon of a settling task that has not begun its walk
    ∷ record {
      start = anew 16;
      lines =
          call (begin 0 PutIn 10 110) 0 0
          ∷ call (step 0 4) 3 0
          ∷ call (begin 0 PutIn 20 120) 0 0
          ∷ call (step 0 5) 3 0
          ∷ call (begin 0 PutIn 30 130) 0 0
          ∷ call (step 0 6) 0 0
          ∷ call (abandon 0) 6 0
          ∷ [];
      after =
          left (record {
            used = 11;
            root = 20 ∷ 1 ∷ [];
            settled = [];
            busy = [];
            fares = 0 ∷ 10 ∷ 110 ∷ 20 ∷ 120 ∷ 30 ∷ 130 ∷ [];
            figures = 0 ∷ 2 ∷ 1 ∷ 1 ∷ 3 ∷ 3 ∷ 5 ∷ 2 ∷ [];
            table =
                rec 1 4294967295 0 255 2 0
                ∷ rec 2 4294967295 0 255 0 0
                ∷ rec 1 4294967295 0 255 5 4
                ∷ rec 2 10 110 0 0 0
                ∷ rec 1 4294967295 0 255 0 0
                ∷ rec 1 20 0 1 6 8
                ∷ rec 1 10 110 0 0 0
                ∷ rec 2 20 120 0 0 0
                ∷ rec 1 30 0 1 9 10
                ∷ rec 1 20 120 0 0 0
                ∷ rec 1 30 130 0 0 0
                ∷ [];
          });
    }
    -- 97: 6 by abandon on the settling walk
    ∷ record {
      start = anew 16;
      lines =
          call (begin 0 PutIn 10 110) 0 0
          ∷ call (step 0 4) 3 0
          ∷ call (begin 0 PutIn 20 120) 0 0
          ∷ call (step 0 5) 3 0
          ∷ call (begin 0 PutIn 30 130) 0 0
          ∷ call (step 0 8) 0 0
          ∷ call (abandon 0) 6 0
          ∷ [];
      after =
          left (record {
            used = 11;
            root = 20 ∷ 1 ∷ [];
            settled = [];
            busy = [];
            fares = 0 ∷ 10 ∷ 110 ∷ 20 ∷ 120 ∷ 30 ∷ 130 ∷ [];
            figures = 0 ∷ 2 ∷ 1 ∷ 1 ∷ 3 ∷ 3 ∷ 5 ∷ 2 ∷ [];
            table =
                rec 1 4294967295 0 255 2 0
                ∷ rec 2 4294967295 0 255 0 0
                ∷ rec 1 4294967295 0 255 5 4
                ∷ rec 2 10 110 0 0 0
                ∷ rec 1 4294967295 0 255 0 0
                ∷ rec 1 20 0 1 6 8
                ∷ rec 1 10 110 0 0 0
                ∷ rec 2 20 120 0 0 0
                ∷ rec 1 30 0 1 9 10
                ∷ rec 1 20 120 0 0 0
                ∷ rec 1 30 130 0 0 0
                ∷ [];
          });
    }
    -- 98: 6 by abandon before the settling commit
    ∷ record {
      start = anew 16;
      lines =
          call (begin 0 PutIn 10 110) 0 0
          ∷ call (step 0 4) 3 0
          ∷ call (begin 0 PutIn 20 120) 0 0
          ∷ call (step 0 5) 3 0
          ∷ call (begin 0 PutIn 30 130) 0 0
          ∷ call (step 0 11) 0 0
          ∷ call (abandon 0) 6 0
          ∷ [];
      after =
          left (record {
            used = 11;
            root = 20 ∷ 1 ∷ [];
            settled = [];
            busy = [];
            fares = 0 ∷ 10 ∷ 110 ∷ 20 ∷ 120 ∷ 30 ∷ 130 ∷ [];
            figures = 0 ∷ 2 ∷ 1 ∷ 1 ∷ 3 ∷ 3 ∷ 5 ∷ 2 ∷ [];
            table =
                rec 1 4294967295 0 255 2 0
                ∷ rec 2 4294967295 0 255 0 0
                ∷ rec 1 4294967295 0 255 5 4
                ∷ rec 2 10 110 0 0 0
                ∷ rec 1 4294967295 0 255 0 0
                ∷ rec 1 20 0 1 6 8
                ∷ rec 1 10 110 0 0 0
                ∷ rec 2 20 120 0 0 0
                ∷ rec 1 30 0 1 9 10
                ∷ rec 1 20 120 0 0 0
                ∷ rec 1 30 130 0 0 0
                ∷ [];
          });
    }
    -- 99: base: a task about to promote, five slots free
    ∷ record {
      start = anew 16;
      lines =
          call (begin 0 PutIn 10 110) 0 0
          ∷ call (step 0 4) 3 0
          ∷ call (begin 0 PutIn 20 120) 0 0
          ∷ call (step 0 5) 3 0
          ∷ call (begin 0 PutIn 30 130) 0 0
          ∷ call (step 0 11) 0 0
          ∷ [];
      after =
          left (record {
            used = 11;
            root = 20 ∷ 1 ∷ [];
            settled = [];
            busy = 0 ∷ [];
            fares = 0 ∷ 10 ∷ 110 ∷ 20 ∷ 120 ∷ 30 ∷ 130 ∷ [];
            figures = 0 ∷ 2 ∷ 1 ∷ 1 ∷ 3 ∷ 3 ∷ 5 ∷ 2 ∷ [];
            table =
                rec 1 4294967295 0 255 2 0
                ∷ rec 2 4294967295 0 255 0 0
                ∷ rec 1 4294967295 0 255 5 4
                ∷ rec 2 10 110 0 0 0
                ∷ rec 1 4294967295 0 255 0 0
                ∷ rec 1 20 0 1 6 8
                ∷ rec 1 10 110 0 0 0
                ∷ rec 2 20 120 0 0 0
                ∷ rec 1 30 0 1 9 10
                ∷ rec 1 20 120 0 0 0
                ∷ rec 1 30 130 0 0 0
                ∷ [];
          });
    }
    -- 100: 6 by lack of slots at a promote
    ∷ record {
      start = onward;
      lines =
          damage (length_is 66)
          ∷ call (step 0 1) 6 0
          ∷ [];
      after =
          left (record {
            used = 11;
            root = 20 ∷ 1 ∷ [];
            settled = [];
            busy = [];
            fares = 0 ∷ 10 ∷ 110 ∷ 20 ∷ 120 ∷ 30 ∷ 130 ∷ [];
            figures = 0 ∷ 2 ∷ 1 ∷ 1 ∷ 3 ∷ 3 ∷ 0 ∷ 2 ∷ [];
            table =
                rec 1 4294967295 0 255 2 0
                ∷ rec 2 4294967295 0 255 0 0
                ∷ rec 1 4294967295 0 255 5 4
                ∷ rec 2 10 110 0 0 0
                ∷ rec 1 4294967295 0 255 0 0
                ∷ rec 1 20 0 1 6 8
                ∷ rec 1 10 110 0 0 0
                ∷ rec 2 20 120 0 0 0
                ∷ rec 1 30 0 1 9 10
                ∷ rec 1 20 120 0 0 0
                ∷ rec 1 30 130 0 0 0
                ∷ [];
          });
    }
    -- 101: one free slot is enough for a promote
    ∷ record {
      start = beside;
      lines =
          damage (length_is 72)
          ∷ call (step 0 1) 0 0
          ∷ [];
      after =
          left (record {
            used = 12;
            root = 20 ∷ 2 ∷ [];
            settled = 21 ∷ [];
            busy = 0 ∷ [];
            fares = 0 ∷ 10 ∷ 110 ∷ 20 ∷ 120 ∷ 30 ∷ 130 ∷ [];
            figures = 0 ∷ 2 ∷ 0 ∷ 1 ∷ 3 ∷ 3 ∷ 0 ∷ 2 ∷ [];
            table =
                rec 1 4294967295 0 255 2 0
                ∷ rec 2 4294967295 0 255 0 0
                ∷ rec 1 4294967295 0 255 11 4
                ∷ rec 2 10 110 0 0 0
                ∷ rec 1 4294967295 0 255 0 0
                ∷ rec 2 20 0 1 6 8
                ∷ rec 1 10 110 0 0 0
                ∷ rec 2 20 120 0 0 0
                ∷ rec 1 30 0 1 9 10
                ∷ rec 1 20 120 0 0 0
                ∷ rec 1 30 130 0 0 0
                ∷ rec 1 20 0 2 6 8
                ∷ [];
          });
    }
    -- 102: the test comes before the lack of slots: pz was taken off
    ∷ record {
      start = beside;
      lines =
          damage (length_is 66)
          ∷ damage (field 2 0 2)
          ∷ call (step 0 1) 0 0
          ∷ damage (field 0 2 1)
          ∷ call (step 0 1) 17 0
          ∷ [];
      after = same;
    }
    -- 103: base: a task about to rotate
    ∷ record {
      start = anew 20;
      lines =
          call (begin 0 PutIn 10 110) 0 0
          ∷ call (step 0 4) 3 0
          ∷ call (begin 0 PutIn 20 120) 0 0
          ∷ call (step 0 5) 3 0
          ∷ call (begin 0 PutIn 30 130) 0 0
          ∷ call (step 0 16) 3 0
          ∷ call (begin 0 PutIn 40 140) 0 0
          ∷ call (step 0 20) 0 0
          ∷ [];
      after =
          left (record {
            used = 16;
            root = 20 ∷ 2 ∷ [];
            settled = 21 ∷ 21 ∷ [];
            busy = 0 ∷ [];
            fares = 0 ∷ 10 ∷ 110 ∷ 20 ∷ 120 ∷ 30 ∷ 130 ∷ 40 ∷ 140 ∷ [];
            figures = 0 ∷ 3 ∷ 1 ∷ 1 ∷ 4 ∷ 4 ∷ 4 ∷ 3 ∷ [];
            table =
                rec 1 4294967295 0 255 2 0
                ∷ rec 2 4294967295 0 255 0 0
                ∷ rec 1 4294967295 0 255 11 4
                ∷ rec 2 10 110 0 0 0
                ∷ rec 1 4294967295 0 255 0 0
                ∷ rec 2 20 0 1 6 8
                ∷ rec 1 10 110 0 0 0
                ∷ rec 2 20 120 0 0 0
                ∷ rec 2 30 0 1 9 12
                ∷ rec 1 20 120 0 0 0
                ∷ rec 2 30 130 0 0 0
                ∷ rec 1 20 0 2 6 15
                ∷ rec 1 40 0 1 13 14
                ∷ rec 1 30 130 0 0 0
                ∷ rec 1 40 140 0 0 0
                ∷ rec 1 30 0 2 9 12
                ∷ [];
          });
    }
    -- 104: 6 by lack of slots at a rotation
    ∷ record {
      start = onward;
      lines =
          damage (length_is 102)
          ∷ call (step 0 1) 6 0
          ∷ [];
      after =
          left (record {
            used = 16;
            root = 20 ∷ 2 ∷ [];
            settled = [];
            busy = [];
            fares = 0 ∷ 10 ∷ 110 ∷ 20 ∷ 120 ∷ 30 ∷ 130 ∷ 40 ∷ 140 ∷ [];
            figures = 0 ∷ 3 ∷ 1 ∷ 1 ∷ 4 ∷ 4 ∷ 1 ∷ 3 ∷ [];
            table =
                rec 1 4294967295 0 255 2 0
                ∷ rec 2 4294967295 0 255 0 0
                ∷ rec 1 4294967295 0 255 11 4
                ∷ rec 2 10 110 0 0 0
                ∷ rec 1 4294967295 0 255 0 0
                ∷ rec 2 20 0 1 6 8
                ∷ rec 1 10 110 0 0 0
                ∷ rec 2 20 120 0 0 0
                ∷ rec 2 30 0 1 9 12
                ∷ rec 1 20 120 0 0 0
                ∷ rec 2 30 130 0 0 0
                ∷ rec 1 20 0 2 6 15
                ∷ rec 1 40 0 1 13 14
                ∷ rec 1 30 130 0 0 0
                ∷ rec 1 40 140 0 0 0
                ∷ rec 1 30 0 2 9 12
                ∷ [];
          });
    }
    -- 105: two free slots are enough for a rotation
    ∷ record {
      start = beside;
      lines =
          damage (length_is 108)
          ∷ call (step 0 1) 0 0
          ∷ [];
      after =
          left (record {
            used = 18;
            root = 30 ∷ 2 ∷ [];
            settled = 31 ∷ [];
            busy = 0 ∷ [];
            fares = 0 ∷ 10 ∷ 110 ∷ 20 ∷ 120 ∷ 30 ∷ 130 ∷ 40 ∷ 140 ∷ [];
            figures = 0 ∷ 2 ∷ 0 ∷ 1 ∷ 4 ∷ 4 ∷ 0 ∷ 3 ∷ [];
            table =
                rec 1 4294967295 0 255 2 0
                ∷ rec 2 4294967295 0 255 0 0
                ∷ rec 1 4294967295 0 255 16 4
                ∷ rec 2 10 110 0 0 0
                ∷ rec 1 4294967295 0 255 0 0
                ∷ rec 2 20 0 1 6 8
                ∷ rec 1 10 110 0 0 0
                ∷ rec 2 20 120 0 0 0
                ∷ rec 2 30 0 1 9 12
                ∷ rec 1 20 120 0 0 0
                ∷ rec 2 30 130 0 0 0
                ∷ rec 2 20 0 2 6 15
                ∷ rec 1 40 0 1 13 14
                ∷ rec 1 30 130 0 0 0
                ∷ rec 1 40 140 0 0 0
                ∷ rec 2 30 0 2 9 12
                ∷ rec 1 30 0 2 17 12
                ∷ rec 1 20 0 1 6 9
                ∷ [];
          });
    }
    -- 106: base: a task about to make a double rotation
    ∷ record {
      start = anew 20;
      lines =
          call (begin 0 PutIn 10 110) 0 0
          ∷ call (step 0 4) 3 0
          ∷ call (begin 0 PutIn 20 120) 0 0
          ∷ call (step 0 5) 3 0
          ∷ call (begin 0 PutIn 30 130) 0 0
          ∷ call (step 0 16) 3 0
          ∷ call (begin 0 PutIn 25 125) 0 0
          ∷ call (step 0 21) 0 0
          ∷ [];
      after =
          left (record {
            used = 16;
            root = 20 ∷ 2 ∷ [];
            settled = 21 ∷ 20 ∷ [];
            busy = 0 ∷ [];
            fares = 0 ∷ 10 ∷ 110 ∷ 20 ∷ 120 ∷ 25 ∷ 125 ∷ 30 ∷ 130 ∷ [];
            figures = 0 ∷ 3 ∷ 1 ∷ 1 ∷ 4 ∷ 4 ∷ 4 ∷ 3 ∷ [];
            table =
                rec 1 4294967295 0 255 2 0
                ∷ rec 2 4294967295 0 255 0 0
                ∷ rec 1 4294967295 0 255 11 4
                ∷ rec 2 10 110 0 0 0
                ∷ rec 1 4294967295 0 255 0 0
                ∷ rec 2 20 0 1 6 8
                ∷ rec 1 10 110 0 0 0
                ∷ rec 2 20 120 0 0 0
                ∷ rec 2 30 0 1 12 10
                ∷ rec 2 20 120 0 0 0
                ∷ rec 1 30 130 0 0 0
                ∷ rec 1 20 0 2 6 15
                ∷ rec 1 25 0 1 13 14
                ∷ rec 1 20 120 0 0 0
                ∷ rec 1 25 125 0 0 0
                ∷ rec 1 30 0 2 12 10
                ∷ [];
          });
    }
    -- 107: 6 by lack of slots at a double rotation
    ∷ record {
      start = onward;
      lines =
          damage (length_is 108)
          ∷ call (step 0 1) 6 0
          ∷ [];
      after =
          left (record {
            used = 16;
            root = 20 ∷ 2 ∷ [];
            settled = [];
            busy = [];
            fares = 0 ∷ 10 ∷ 110 ∷ 20 ∷ 120 ∷ 25 ∷ 125 ∷ 30 ∷ 130 ∷ [];
            figures = 0 ∷ 3 ∷ 1 ∷ 1 ∷ 4 ∷ 4 ∷ 2 ∷ 3 ∷ [];
            table =
                rec 1 4294967295 0 255 2 0
                ∷ rec 2 4294967295 0 255 0 0
                ∷ rec 1 4294967295 0 255 11 4
                ∷ rec 2 10 110 0 0 0
                ∷ rec 1 4294967295 0 255 0 0
                ∷ rec 2 20 0 1 6 8
                ∷ rec 1 10 110 0 0 0
                ∷ rec 2 20 120 0 0 0
                ∷ rec 2 30 0 1 12 10
                ∷ rec 2 20 120 0 0 0
                ∷ rec 1 30 130 0 0 0
                ∷ rec 1 20 0 2 6 15
                ∷ rec 1 25 0 1 13 14
                ∷ rec 1 20 120 0 0 0
                ∷ rec 1 25 125 0 0 0
                ∷ rec 1 30 0 2 12 10
                ∷ [];
          });
    }
    -- 108: three free slots are enough for a double rotation
    ∷ record {
      start = beside;
      lines =
          damage (length_is 114)
          ∷ call (step 0 1) 0 0
          ∷ [];
      after =
          left (record {
            used = 19;
            root = 25 ∷ 2 ∷ [];
            settled = 51 ∷ [];
            busy = 0 ∷ [];
            fares = 0 ∷ 10 ∷ 110 ∷ 20 ∷ 120 ∷ 25 ∷ 125 ∷ 30 ∷ 130 ∷ [];
            figures = 0 ∷ 2 ∷ 0 ∷ 1 ∷ 4 ∷ 4 ∷ 0 ∷ 3 ∷ [];
            table =
                rec 1 4294967295 0 255 2 0
                ∷ rec 2 4294967295 0 255 0 0
                ∷ rec 1 4294967295 0 255 16 4
                ∷ rec 2 10 110 0 0 0
                ∷ rec 1 4294967295 0 255 0 0
                ∷ rec 2 20 0 1 6 8
                ∷ rec 1 10 110 0 0 0
                ∷ rec 2 20 120 0 0 0
                ∷ rec 2 30 0 1 12 10
                ∷ rec 2 20 120 0 0 0
                ∷ rec 1 30 130 0 0 0
                ∷ rec 2 20 0 2 6 15
                ∷ rec 2 25 0 1 13 14
                ∷ rec 1 20 120 0 0 0
                ∷ rec 1 25 125 0 0 0
                ∷ rec 2 30 0 2 12 10
                ∷ rec 1 25 0 2 17 18
                ∷ rec 1 20 0 1 6 13
                ∷ rec 1 30 0 1 14 10
                ∷ [];
          });
    }
    -- 109: order: base: eight slots, 10 and 20 put in, task 0 about to commit a put-in
    ∷ record {
      start = anew 8;
      lines =
          call (begin 0 PutIn 10 110) 0 0
          ∷ call (step 0 4) 3 0
          ∷ call (begin 0 PutIn 20 120) 0 0
          ∷ call (step 0 5) 3 0
          ∷ call (begin 0 PutIn 30 130) 0 0
          ∷ call (step 0 5) 0 0
          ∷ [];
      after =
          left (record {
            used = 8;
            root = 20 ∷ 1 ∷ [];
            settled = [];
            busy = 0 ∷ [];
            fares = 0 ∷ 10 ∷ 110 ∷ 20 ∷ 120 ∷ [];
            figures = 0 ∷ 1 ∷ 0 ∷ 0 ∷ 2 ∷ 2 ∷ 0 ∷ 1 ∷ [];
            table =
                rec 1 4294967295 0 255 2 0
                ∷ rec 2 4294967295 0 255 0 0
                ∷ rec 1 4294967295 0 255 5 4
                ∷ rec 2 10 110 0 0 0
                ∷ rec 1 4294967295 0 255 0 0
                ∷ rec 1 20 0 1 6 7
                ∷ rec 1 10 110 0 0 0
                ∷ rec 1 20 120 0 0 0
                ∷ [];
          });
    }
    -- 110: order: 18 before 10
    ∷ record {
      start = onward;
      lines =
          damage (length_is 47)
          ∷ call (begin 8 LookUp 10 0) 18 0
          ∷ [];
      after = same;
    }
    -- 111: order: 18 before 10, step
    ∷ record {
      start = beside;
      lines =
          damage (length_is 47)
          ∷ call (step 8 1) 18 0
          ∷ [];
      after = same;
    }
    -- 112: order: 18 before 10, abandon
    ∷ record {
      start = beside;
      lines =
          damage (length_is 47)
          ∷ call (abandon 8) 18 0
          ∷ [];
      after = same;
    }
    -- 113: order: 18 before 11 and 12
    ∷ record {
      start = beside;
      lines =
          damage (length_is 47)
          ∷ call (begin 0 LookUp 1000000 0) 18 0
          ∷ [];
      after = same;
    }
    -- 114: order: 18 before 13
    ∷ record {
      start = beside;
      lines =
          damage (length_is 47)
          ∷ call (step 1 1) 18 0
          ∷ [];
      after = same;
    }
    -- 115: order: 18 before 13, abandon
    ∷ record {
      start = beside;
      lines =
          damage (length_is 47)
          ∷ call (abandon 1) 18 0
          ∷ [];
      after = same;
    }
    -- 116: order: 18 before 14
    ∷ record {
      start = beside;
      lines =
          damage (length_is 47)
          ∷ call tidy 18 0
          ∷ [];
      after = same;
    }
    -- 117: order: 18 before 17, figures
    ∷ record {
      start = beside;
      lines =
          damage (length_is 47)
          ∷ damage (m_is 1000001)
          ∷ call figures 18 0
          ∷ [];
      after = same;
    }
    -- 118: order: 18 before 17, list
    ∷ record {
      start = beside;
      lines =
          damage (length_is 47)
          ∷ damage (m_is 1000001)
          ∷ call (list 9) 18 0
          ∷ [];
      after = same;
    }
    -- 119: order: 10 before 11
    ∷ record {
      start = beside;
      lines =
          call (begin 8 PutIn 1000000 5) 10 0
          ∷ [];
      after = same;
    }
    -- 120: order: 10 before 17, step
    ∷ record {
      start = beside;
      lines =
          damage (m_is 1000001)
          ∷ call (step 8 1) 10 0
          ∷ [];
      after = same;
    }
    -- 121: order: 10 before 17, abandon
    ∷ record {
      start = beside;
      lines =
          damage (m_is 1000001)
          ∷ call (abandon 8) 10 0
          ∷ [];
      after = same;
    }
    -- 122: order: 11 before 12
    ∷ record {
      start = beside;
      lines =
          call (begin 0 PutIn 1000000 5) 11 0
          ∷ [];
      after = same;
    }
    -- 123: order: 11 before 12, a look up with a price
    ∷ record {
      start = beside;
      lines =
          call (begin 0 LookUp 10 1) 11 0
          ∷ [];
      after = same;
    }
    -- 124: order: 11 before 17
    ∷ record {
      start = beside;
      lines =
          damage (m_is 1000001)
          ∷ call (begin 1 PutIn 1000000 5) 11 0
          ∷ [];
      after = same;
    }
    -- 125: order: 12 before 17
    ∷ record {
      start = beside;
      lines =
          damage (m_is 1000001)
          ∷ call (begin 0 LookUp 10 0) 12 0
          ∷ [];
      after = same;
    }
    -- 126: order: 13 before 17, step
    ∷ record {
      start = beside;
      lines =
          damage (m_is 1000001)
          ∷ call (step 1 1) 13 0
          ∷ [];
      after = same;
    }
    -- 127: order: 13 before 17, abandon
    ∷ record {
      start = beside;
      lines =
          damage (m_is 1000001)
          ∷ call (abandon 1) 13 0
          ∷ [];
      after = same;
    }
    -- 128: order: 14 before 17, by the counts
    ∷ record {
      start = beside;
      lines =
          damage (m_is 1000001)
          ∷ call tidy 14 0
          ∷ [];
      after = same;
    }
    -- 129: order: 14 before 17, by a record
    ∷ record {
      start = beside;
      lines =
          damage (field 5 2 1)
          ∷ call tidy 14 0
          ∷ [];
      after = same;
    }
    -- 130: order: 17 before 16 and 15, a hurt parent at the commit
    ∷ record {
      start = beside;
      lines =
          damage (m_is 1000000)
          ∷ damage (field 5 2 1)
          ∷ call (step 0 1) 17 0
          ∷ [];
      after = same;
    }
    -- 131: order: 17 before 15 alone
    ∷ record {
      start = beside;
      lines =
          damage (field 5 2 1)
          ∷ call (step 0 1) 17 0
          ∷ [];
      after = same;
    }
    -- 132: order: 17 before 15 in a list
    ∷ record {
      start = beside;
      lines =
          damage (field 5 2 1)
          ∷ call (list 0) 17 0
          ∷ [];
      after = same;
    }
    -- 133: order: 16 before 15
    ∷ record {
      start = beside;
      lines =
          damage (m_is 1000000)
          ∷ call (step 0 1) 16 0
          ∷ [];
      after =
          left (record {
            used = 8;
            root = 20 ∷ 1 ∷ [];
            settled = [];
            busy = [];
            fares = 0 ∷ 10 ∷ 110 ∷ 20 ∷ 120 ∷ [];
            figures = 0 ∷ 1 ∷ 0 ∷ 0 ∷ 1000000 ∷ 2 ∷ 0 ∷ 28 ∷ [];
            table =
                rec 1 4294967295 0 255 2 0
                ∷ rec 2 4294967295 0 255 0 0
                ∷ rec 1 4294967295 0 255 5 4
                ∷ rec 2 10 110 0 0 0
                ∷ rec 1 4294967295 0 255 0 0
                ∷ rec 1 20 0 1 6 7
                ∷ rec 1 10 110 0 0 0
                ∷ rec 1 20 120 0 0 0
                ∷ [];
          });
    }
    -- 134: order: the test before 16
    ∷ record {
      start = beside;
      lines =
          damage (m_is 1000000)
          ∷ damage (field 5 0 2)
          ∷ call (step 0 1) 0 0
          ∷ damage (field 0 2 1)
          ∷ call (step 0 1) 17 0
          ∷ [];
      after = same;
    }
    -- 135: order: the test before 15
    ∷ record {
      start = beside;
      lines =
          damage (field 5 0 2)
          ∷ call (step 0 1) 0 0
          ∷ damage (field 0 2 1)
          ∷ call (step 0 1) 17 0
          ∷ [];
      after = same;
    }
    -- 136: order: the test before 15 at a take-out
    ∷ record {
      start = beside;
      lines =
          call (begin 1 TakeOut 10 0) 0 0
          ∷ call (step 1 7) 0 0
          ∷ damage (field 5 0 2)
          ∷ call (step 1 1) 0 0
          ∷ damage (field 0 2 1)
          ∷ call (step 1 1) 17 0
          ∷ [];
      after = same;
    }
    -- 137: base: 10 and 20 put in, 30 committed, task 0 about to settle; m is 3, c is 1
    ∷ record {
      start = anew 16;
      lines =
          call (begin 0 PutIn 10 110) 0 0
          ∷ call (step 0 4) 3 0
          ∷ call (begin 0 PutIn 20 120) 0 0
          ∷ call (step 0 5) 3 0
          ∷ call (begin 0 PutIn 30 130) 0 0
          ∷ call (step 0 6) 0 0
          ∷ [];
      after =
          left (record {
            used = 11;
            root = 20 ∷ 1 ∷ [];
            settled = [];
            busy = 0 ∷ [];
            fares = 0 ∷ 10 ∷ 110 ∷ 20 ∷ 120 ∷ 30 ∷ 130 ∷ [];
            figures = 0 ∷ 2 ∷ 1 ∷ 1 ∷ 3 ∷ 3 ∷ 5 ∷ 2 ∷ [];
            table =
                rec 1 4294967295 0 255 2 0
                ∷ rec 2 4294967295 0 255 0 0
                ∷ rec 1 4294967295 0 255 5 4
                ∷ rec 2 10 110 0 0 0
                ∷ rec 1 4294967295 0 255 0 0
                ∷ rec 1 20 0 1 6 8
                ∷ rec 1 10 110 0 0 0
                ∷ rec 2 20 120 0 0 0
                ∷ rec 1 30 0 1 9 10
                ∷ rec 1 20 120 0 0 0
                ∷ rec 1 30 130 0 0 0
                ∷ [];
          });
    }
    -- 138: 17 from begin, m is 1,000,001
    ∷ record {
      start = onward;
      lines =
          damage (m_is 1000001)
          ∷ call (begin 1 LookUp 10 0) 17 0
          ∷ [];
      after = same;
    }
    -- 139: begin, m is 1,000,000
    ∷ record {
      start = beside;
      lines =
          damage (m_is 1000000)
          ∷ call (begin 1 LookUp 10 0) 0 0
          ∷ [];
      after =
          left (record {
            used = 11;
            root = 20 ∷ 1 ∷ [];
            settled = [];
            busy = 0 ∷ 1 ∷ [];
            fares = 0 ∷ 10 ∷ 110 ∷ 20 ∷ 120 ∷ 30 ∷ 130 ∷ [];
            figures = 0 ∷ 2 ∷ 1 ∷ 1 ∷ 1000000 ∷ 3 ∷ 5 ∷ 28 ∷ [];
            table =
                rec 1 4294967295 0 255 2 0
                ∷ rec 2 4294967295 0 255 0 0
                ∷ rec 1 4294967295 0 255 5 4
                ∷ rec 2 10 110 0 0 0
                ∷ rec 1 4294967295 0 255 0 0
                ∷ rec 1 20 0 1 6 8
                ∷ rec 1 10 110 0 0 0
                ∷ rec 2 20 120 0 0 0
                ∷ rec 1 30 0 1 9 10
                ∷ rec 1 20 120 0 0 0
                ∷ rec 1 30 130 0 0 0
                ∷ [];
          });
    }
    -- 140: 17 from step, m is 1,000,001
    ∷ record {
      start = beside;
      lines =
          damage (m_is 1000001)
          ∷ call (step 0 1) 17 0
          ∷ [];
      after = same;
    }
    -- 141: step, m is 1,000,000
    ∷ record {
      start = beside;
      lines =
          damage (m_is 1000000)
          ∷ call (step 0 6) 0 0
          ∷ [];
      after =
          left (record {
            used = 12;
            root = 20 ∷ 2 ∷ [];
            settled = 21 ∷ [];
            busy = 0 ∷ [];
            fares = 0 ∷ 10 ∷ 110 ∷ 20 ∷ 120 ∷ 30 ∷ 130 ∷ [];
            figures = 0 ∷ 2 ∷ 0 ∷ 1 ∷ 1000000 ∷ 3 ∷ 4 ∷ 28 ∷ [];
            table =
                rec 1 4294967295 0 255 2 0
                ∷ rec 2 4294967295 0 255 0 0
                ∷ rec 1 4294967295 0 255 11 4
                ∷ rec 2 10 110 0 0 0
                ∷ rec 1 4294967295 0 255 0 0
                ∷ rec 2 20 0 1 6 8
                ∷ rec 1 10 110 0 0 0
                ∷ rec 2 20 120 0 0 0
                ∷ rec 1 30 0 1 9 10
                ∷ rec 1 20 120 0 0 0
                ∷ rec 1 30 130 0 0 0
                ∷ rec 1 20 0 2 6 8
                ∷ [];
          });
    }
    -- 142: 17 from abandon, m is 1,000,001
    ∷ record {
      start = beside;
      lines =
          damage (m_is 1000001)
          ∷ call (abandon 0) 17 0
          ∷ [];
      after = same;
    }
    -- 143: abandon, m is 1,000,000
    ∷ record {
      start = beside;
      lines =
          damage (m_is 1000000)
          ∷ call (abandon 0) 6 0
          ∷ [];
      after =
          left (record {
            used = 11;
            root = 20 ∷ 1 ∷ [];
            settled = [];
            busy = [];
            fares = 0 ∷ 10 ∷ 110 ∷ 20 ∷ 120 ∷ 30 ∷ 130 ∷ [];
            figures = 0 ∷ 2 ∷ 1 ∷ 1 ∷ 1000000 ∷ 3 ∷ 5 ∷ 28 ∷ [];
            table =
                rec 1 4294967295 0 255 2 0
                ∷ rec 2 4294967295 0 255 0 0
                ∷ rec 1 4294967295 0 255 5 4
                ∷ rec 2 10 110 0 0 0
                ∷ rec 1 4294967295 0 255 0 0
                ∷ rec 1 20 0 1 6 8
                ∷ rec 1 10 110 0 0 0
                ∷ rec 2 20 120 0 0 0
                ∷ rec 1 30 0 1 9 10
                ∷ rec 1 20 120 0 0 0
                ∷ rec 1 30 130 0 0 0
                ∷ [];
          });
    }
    -- 144: 17 from tidy, m is 1,000,001
    ∷ record {
      start = beside;
      lines =
          call (abandon 0) 6 0
          ∷ damage (m_is 1000001)
          ∷ call tidy 17 0
          ∷ [];
      after = same;
    }
    -- 145: tidy, m is 1,000,000
    ∷ record {
      start = beside;
      lines =
          call (abandon 0) 6 0
          ∷ damage (m_is 1000000)
          ∷ call tidy 0 0
          ∷ [];
      after =
          left (record {
            used = 8;
            root = 20 ∷ 1 ∷ [];
            settled = [];
            busy = [];
            fares = 0 ∷ 10 ∷ 110 ∷ 20 ∷ 120 ∷ 30 ∷ 130 ∷ [];
            figures = 0 ∷ 2 ∷ 1 ∷ 1 ∷ 1000000 ∷ 3 ∷ 8 ∷ 28 ∷ [];
            table =
                rec 1 4294967295 0 255 2 0
                ∷ rec 0 0 0 0 0 0
                ∷ rec 1 4294967295 0 255 5 4
                ∷ rec 0 0 0 0 0 0
                ∷ rec 1 4294967295 0 255 0 0
                ∷ rec 1 20 0 1 6 8
                ∷ rec 1 10 110 0 0 0
                ∷ rec 0 0 0 0 0 0
                ∷ rec 1 30 0 1 9 10
                ∷ rec 1 20 120 0 0 0
                ∷ rec 1 30 130 0 0 0
                ∷ [];
          });
    }
    -- 146: 17 from figures, m is 1,000,001
    ∷ record {
      start = beside;
      lines =
          damage (m_is 1000001)
          ∷ call figures 17 0
          ∷ [];
      after = same;
    }
    -- 147: figures, m is 1,000,000
    ∷ record {
      start = beside;
      lines =
          damage (m_is 1000000)
          ∷ call figures 0 0
          ∷ [];
      after = same;
    }
    -- 148: 17 from list, m is 1,000,001
    ∷ record {
      start = beside;
      lines =
          damage (m_is 1000001)
          ∷ call (list 6) 17 0
          ∷ [];
      after = same;
    }
    -- 149: list, m is 1,000,000
    ∷ record {
      start = beside;
      lines =
          damage (m_is 1000000)
          ∷ call (list 6) 0 0
          ∷ [];
      after = same;
    }
    -- 150: 17 from begin, u plus one settling task is 4 and m is 3
    ∷ record {
      start = beside;
      lines =
          damage (u_is 3)
          ∷ call (begin 1 LookUp 10 0) 17 0
          ∷ [];
      after = same;
    }
    -- 151: begin, u plus one settling task is 3
    ∷ record {
      start = beside;
      lines =
          damage (u_is 2)
          ∷ call (begin 1 LookUp 10 0) 0 0
          ∷ [];
      after =
          left (record {
            used = 11;
            root = 20 ∷ 1 ∷ [];
            settled = [];
            busy = 0 ∷ 1 ∷ [];
            fares = 0 ∷ 10 ∷ 110 ∷ 20 ∷ 120 ∷ 30 ∷ 130 ∷ [];
            figures = 0 ∷ 2 ∷ 1 ∷ 3 ∷ 3 ∷ 3 ∷ 5 ∷ 2 ∷ [];
            table =
                rec 1 4294967295 0 255 2 0
                ∷ rec 2 4294967295 0 255 0 0
                ∷ rec 1 4294967295 0 255 5 4
                ∷ rec 2 10 110 0 0 0
                ∷ rec 1 4294967295 0 255 0 0
                ∷ rec 1 20 0 1 6 8
                ∷ rec 1 10 110 0 0 0
                ∷ rec 2 20 120 0 0 0
                ∷ rec 1 30 0 1 9 10
                ∷ rec 1 20 120 0 0 0
                ∷ rec 1 30 130 0 0 0
                ∷ [];
          });
    }
    -- 152: 17 from step, u plus one settling task is 4
    ∷ record {
      start = beside;
      lines =
          damage (u_is 3)
          ∷ call (step 0 1) 17 0
          ∷ [];
      after = same;
    }
    -- 153: step, u plus one settling task is 3
    ∷ record {
      start = beside;
      lines =
          damage (u_is 2)
          ∷ call (step 0 6) 0 0
          ∷ [];
      after =
          left (record {
            used = 12;
            root = 20 ∷ 2 ∷ [];
            settled = 21 ∷ [];
            busy = 0 ∷ [];
            fares = 0 ∷ 10 ∷ 110 ∷ 20 ∷ 120 ∷ 30 ∷ 130 ∷ [];
            figures = 0 ∷ 2 ∷ 0 ∷ 3 ∷ 3 ∷ 3 ∷ 4 ∷ 2 ∷ [];
            table =
                rec 1 4294967295 0 255 2 0
                ∷ rec 2 4294967295 0 255 0 0
                ∷ rec 1 4294967295 0 255 11 4
                ∷ rec 2 10 110 0 0 0
                ∷ rec 1 4294967295 0 255 0 0
                ∷ rec 2 20 0 1 6 8
                ∷ rec 1 10 110 0 0 0
                ∷ rec 2 20 120 0 0 0
                ∷ rec 1 30 0 1 9 10
                ∷ rec 1 20 120 0 0 0
                ∷ rec 1 30 130 0 0 0
                ∷ rec 1 20 0 2 6 8
                ∷ [];
          });
    }
    -- 154: 17 from step of another task, u plus one settling task is 4
    ∷ record {
      start = beside;
      lines =
          call (begin 1 LookUp 10 0) 0 0
          ∷ damage (u_is 3)
          ∷ call (step 1 1) 17 0
          ∷ [];
      after = same;
    }
    -- 155: 17 from abandon, u plus one settling task is 4
    ∷ record {
      start = beside;
      lines =
          damage (u_is 3)
          ∷ call (abandon 0) 17 0
          ∷ [];
      after = same;
    }
    -- 156: abandon, u plus one settling task is 3: c stays 3
    ∷ record {
      start = beside;
      lines =
          damage (u_is 2)
          ∷ call (abandon 0) 6 0
          ∷ [];
      after =
          left (record {
            used = 11;
            root = 20 ∷ 1 ∷ [];
            settled = [];
            busy = [];
            fares = 0 ∷ 10 ∷ 110 ∷ 20 ∷ 120 ∷ 30 ∷ 130 ∷ [];
            figures = 0 ∷ 2 ∷ 1 ∷ 3 ∷ 3 ∷ 3 ∷ 5 ∷ 2 ∷ [];
            table =
                rec 1 4294967295 0 255 2 0
                ∷ rec 2 4294967295 0 255 0 0
                ∷ rec 1 4294967295 0 255 5 4
                ∷ rec 2 10 110 0 0 0
                ∷ rec 1 4294967295 0 255 0 0
                ∷ rec 1 20 0 1 6 8
                ∷ rec 1 10 110 0 0 0
                ∷ rec 2 20 120 0 0 0
                ∷ rec 1 30 0 1 9 10
                ∷ rec 1 20 120 0 0 0
                ∷ rec 1 30 130 0 0 0
                ∷ [];
          });
    }
    -- 157: 17 from tidy, u is 4
    ∷ record {
      start = beside;
      lines =
          call (abandon 0) 6 0
          ∷ damage (u_is 4)
          ∷ call tidy 17 0
          ∷ [];
      after = same;
    }
    -- 158: tidy, u is 3
    ∷ record {
      start = beside;
      lines =
          call (abandon 0) 6 0
          ∷ damage (u_is 3)
          ∷ call tidy 0 0
          ∷ [];
      after =
          left (record {
            used = 8;
            root = 20 ∷ 1 ∷ [];
            settled = [];
            busy = [];
            fares = 0 ∷ 10 ∷ 110 ∷ 20 ∷ 120 ∷ 30 ∷ 130 ∷ [];
            figures = 0 ∷ 2 ∷ 1 ∷ 3 ∷ 3 ∷ 3 ∷ 8 ∷ 2 ∷ [];
            table =
                rec 1 4294967295 0 255 2 0
                ∷ rec 0 0 0 0 0 0
                ∷ rec 1 4294967295 0 255 5 4
                ∷ rec 0 0 0 0 0 0
                ∷ rec 1 4294967295 0 255 0 0
                ∷ rec 1 20 0 1 6 8
                ∷ rec 1 10 110 0 0 0
                ∷ rec 0 0 0 0 0 0
                ∷ rec 1 30 0 1 9 10
                ∷ rec 1 20 120 0 0 0
                ∷ rec 1 30 130 0 0 0
                ∷ [];
          });
    }
    -- 159: 17 from figures, u plus one settling task is 4
    ∷ record {
      start = beside;
      lines =
          damage (u_is 3)
          ∷ call figures 17 0
          ∷ [];
      after = same;
    }
    -- 160: figures, u plus one settling task is 3
    ∷ record {
      start = beside;
      lines =
          damage (u_is 2)
          ∷ call figures 0 0
          ∷ [];
      after = same;
    }
    -- 161: 17 from list, u plus one settling task is 4
    ∷ record {
      start = beside;
      lines =
          damage (u_is 3)
          ∷ call (list 6) 17 0
          ∷ [];
      after = same;
    }
    -- 162: list, u plus one settling task is 3
    ∷ record {
      start = beside;
      lines =
          damage (u_is 2)
          ∷ call (list 6) 0 0
          ∷ [];
      after = same;
    }
    -- 163: a task on its settling walk counts
    ∷ record {
      start = beside;
      lines =
          call (step 0 1) 0 0
          ∷ damage (u_is 3)
          ∷ call figures 17 0
          ∷ [];
      after = same;
    }
    -- 164: a task in its settling readings counts
    ∷ record {
      start = beside;
      lines =
          call (step 0 4) 0 0
          ∷ damage (u_is 3)
          ∷ call figures 17 0
          ∷ [];
      after = same;
    }
    -- 165: a task that walks to put in does not count
    ∷ record {
      start = beside;
      lines =
          call (begin 1 PutIn 40 140) 0 0
          ∷ call (step 1 1) 0 0
          ∷ damage (u_is 2)
          ∷ call figures 0 0
          ∷ [];
      after = same;
    }
    -- 166: two settling tasks count twice
    ∷ record {
      start = beside;
      lines =
          call (begin 1 PutIn 40 140) 0 0
          ∷ call (step 1 7) 0 0
          ∷ damage (u_is 3)
          ∷ call figures 17 0
          ∷ [];
      after = same;
    }
    -- 167: two settling tasks and u make m
    ∷ record {
      start = beside;
      lines =
          call (begin 1 PutIn 40 140) 0 0
          ∷ call (step 1 7) 0 0
          ∷ damage (u_is 2)
          ∷ call figures 0 0
          ∷ [];
      after = same;
    }
    -- 168: u plus the settling tasks does not wrap: u is 4,294,967,295
    ∷ record {
      start = beside;
      lines =
          damage (u_is 4294967295)
          ∷ call figures 17 0
          ∷ [];
      after = same;
    }
    -- 169: one settling task and m is 0
    ∷ record {
      start = beside;
      lines =
          damage (m_is 0)
          ∷ call figures 17 0
          ∷ [];
      after = same;
    }
    -- 170: one settling task and m is 1
    ∷ record {
      start = beside;
      lines =
          damage (m_is 1)
          ∷ call figures 0 0
          ∷ [];
      after = same;
    }
    -- 171: base: 10, 20, 30 put in and tidied; slots 0, 2, 11, 8 lead down to the leaves 6, 9, 10
    ∷ record {
      start = anew 16;
      lines =
          call (begin 0 PutIn 10 110) 0 0
          ∷ call (step 0 4) 3 0
          ∷ call (begin 0 PutIn 20 120) 0 0
          ∷ call (step 0 5) 3 0
          ∷ call (begin 0 PutIn 30 130) 0 0
          ∷ call (step 0 16) 3 0
          ∷ call tidy 0 0
          ∷ [];
      after =
          left (record {
            used = 8;
            root = 20 ∷ 2 ∷ [];
            settled = 21 ∷ [];
            busy = [];
            fares = 0 ∷ 10 ∷ 110 ∷ 20 ∷ 120 ∷ 30 ∷ 130 ∷ [];
            figures = 0 ∷ 2 ∷ 0 ∷ 0 ∷ 3 ∷ 3 ∷ 8 ∷ 2 ∷ [];
            table =
                rec 1 4294967295 0 255 2 0
                ∷ rec 0 0 0 0 0 0
                ∷ rec 1 4294967295 0 255 11 4
                ∷ rec 0 0 0 0 0 0
                ∷ rec 1 4294967295 0 255 0 0
                ∷ rec 0 0 0 0 0 0
                ∷ rec 1 10 110 0 0 0
                ∷ rec 0 0 0 0 0 0
                ∷ rec 1 30 0 1 9 10
                ∷ rec 1 20 120 0 0 0
                ∷ rec 1 30 130 0 0 0
                ∷ rec 1 20 0 2 6 8
                ∷ [];
          });
    }
    -- 172: 17, the task's number is 1,000,000
    ∷ record {
      start = onward;
      lines =
          damage (task_is 0 (busy 1000000 0 (Walk (Serve LookUp) (path 2 11 8))))
          ∷ call (step 0 1) 17 0
          ∷ [];
      after = same;
    }
    -- 173: the task's number is 999,999
    ∷ record {
      start = beside;
      lines =
          damage (task_is 0 (busy 999999 0 (Walk (Serve LookUp) (path 2 11 8))))
          ∷ call (step 0 1) 2 0
          ∷ [];
      after =
          left (record {
            used = 8;
            root = 20 ∷ 2 ∷ [];
            settled = [];
            busy = [];
            fares = 0 ∷ 10 ∷ 110 ∷ 20 ∷ 120 ∷ 30 ∷ 130 ∷ [];
            figures = 0 ∷ 2 ∷ 0 ∷ 0 ∷ 3 ∷ 3 ∷ 8 ∷ 2 ∷ [];
            table =
                rec 1 4294967295 0 255 2 0
                ∷ rec 0 0 0 0 0 0
                ∷ rec 1 4294967295 0 255 11 4
                ∷ rec 0 0 0 0 0 0
                ∷ rec 1 4294967295 0 255 0 0
                ∷ rec 0 0 0 0 0 0
                ∷ rec 1 10 110 0 0 0
                ∷ rec 0 0 0 0 0 0
                ∷ rec 1 30 0 1 9 10
                ∷ rec 1 20 120 0 0 0
                ∷ rec 1 30 130 0 0 0
                ∷ rec 1 20 0 2 6 8
                ∷ [];
          });
    }
    -- 174: 17, the task's number is the sentinels'
    ∷ record {
      start = beside;
      lines =
          damage (task_is 0 (busy 4294967295 0 (Start (Serve LookUp))))
          ∷ call (step 0 1) 17 0
          ∷ [];
      after = same;
    }
    -- 175: 17, the task's price is 100,000
    ∷ record {
      start = beside;
      lines =
          damage (task_is 0 (busy 35 100000 (Walk (Serve PutIn) (path 2 11 8))))
          ∷ call (step 0 1) 17 0
          ∷ [];
      after = same;
    }
    -- 176: the task's price is 99,999
    ∷ record {
      start = beside;
      lines =
          damage (task_is 0 (busy 35 99999 (Walk (Serve PutIn) (path 2 11 8))))
          ∷ call (step 0 1) 0 0
          ∷ call (step 0 3) 0 0
          ∷ [];
      after =
          left (record {
            used = 11;
            root = 20 ∷ 2 ∷ [];
            settled = [];
            busy = 0 ∷ [];
            fares = 0 ∷ 10 ∷ 110 ∷ 20 ∷ 120 ∷ 30 ∷ 130 ∷ 35 ∷ 99999 ∷ [];
            figures = 0 ∷ 3 ∷ 1 ∷ 1 ∷ 4 ∷ 4 ∷ 5 ∷ 3 ∷ [];
            table =
                rec 1 4294967295 0 255 2 0
                ∷ rec 1 35 0 1 3 5
                ∷ rec 1 4294967295 0 255 11 4
                ∷ rec 1 30 130 0 0 0
                ∷ rec 1 4294967295 0 255 0 0
                ∷ rec 1 35 99999 0 0 0
                ∷ rec 1 10 110 0 0 0
                ∷ rec 0 0 0 0 0 0
                ∷ rec 1 30 0 1 9 1
                ∷ rec 1 20 120 0 0 0
                ∷ rec 2 30 130 0 0 0
                ∷ rec 1 20 0 2 6 8
                ∷ [];
          });
    }
    -- 177: 17, a look up with price 100,000
    ∷ record {
      start = beside;
      lines =
          damage (task_is 0 (busy 30 100000 (Walk (Serve LookUp) (path 2 11 8))))
          ∷ call (step 0 1) 17 0
          ∷ [];
      after = same;
    }
    -- 178: a look up with price 7 is in range
    ∷ record {
      start = beside;
      lines =
          damage (task_is 0 (busy 30 7 (Walk (Serve LookUp) (path 2 11 8))))
          ∷ call (step 0 1) 1 130
          ∷ [];
      after =
          left (record {
            used = 8;
            root = 20 ∷ 2 ∷ [];
            settled = [];
            busy = [];
            fares = 0 ∷ 10 ∷ 110 ∷ 20 ∷ 120 ∷ 30 ∷ 130 ∷ [];
            figures = 0 ∷ 2 ∷ 0 ∷ 0 ∷ 3 ∷ 3 ∷ 8 ∷ 2 ∷ [];
            table =
                rec 1 4294967295 0 255 2 0
                ∷ rec 0 0 0 0 0 0
                ∷ rec 1 4294967295 0 255 11 4
                ∷ rec 0 0 0 0 0 0
                ∷ rec 1 4294967295 0 255 0 0
                ∷ rec 0 0 0 0 0 0
                ∷ rec 1 10 110 0 0 0
                ∷ rec 0 0 0 0 0 0
                ∷ rec 1 30 0 1 9 10
                ∷ rec 1 20 120 0 0 0
                ∷ rec 1 30 130 0 0 0
                ∷ rec 1 20 0 2 6 8
                ∷ [];
          });
    }
    -- 179: 17, a settling task's number is 1,000,000
    ∷ record {
      start = beside;
      lines =
          damage (task_is 0 (busy 1000000 0 (Settling (path 2 11 8) SettleGrand)))
          ∷ call (step 0 1) 17 0
          ∷ [];
      after = same;
    }
    -- 180: the number out of range is no matter to abandon
    ∷ record {
      start = beside;
      lines =
          damage (task_is 0 (busy 1000000 100000 (Walk (Serve LookUp) (path 2 11 8))))
          ∷ call (abandon 0) 0 0
          ∷ [];
      after =
          left (record {
            used = 8;
            root = 20 ∷ 2 ∷ [];
            settled = [];
            busy = [];
            fares = 0 ∷ 10 ∷ 110 ∷ 20 ∷ 120 ∷ 30 ∷ 130 ∷ [];
            figures = 0 ∷ 2 ∷ 0 ∷ 0 ∷ 3 ∷ 3 ∷ 8 ∷ 2 ∷ [];
            table =
                rec 1 4294967295 0 255 2 0
                ∷ rec 0 0 0 0 0 0
                ∷ rec 1 4294967295 0 255 11 4
                ∷ rec 0 0 0 0 0 0
                ∷ rec 1 4294967295 0 255 0 0
                ∷ rec 0 0 0 0 0 0
                ∷ rec 1 10 110 0 0 0
                ∷ rec 0 0 0 0 0 0
                ∷ rec 1 30 0 1 9 10
                ∷ rec 1 20 120 0 0 0
                ∷ rec 1 30 130 0 0 0
                ∷ rec 1 20 0 2 6 8
                ∷ [];
          });
    }
    -- 181: 17, the record left is not well formed
    ∷ record {
      start = beside;
      lines =
          damage (task_is 0 (busy 30 0 (Walk (Serve LookUp) (path 2 11 8))))
          ∷ damage (field 8 2 1)
          ∷ call (step 0 1) 17 0
          ∷ [];
      after = same;
    }
    -- 182: the record left is well formed
    ∷ record {
      start = beside;
      lines =
          damage (task_is 0 (busy 30 0 (Walk (Serve LookUp) (path 2 11 8))))
          ∷ call (step 0 1) 1 130
          ∷ [];
      after =
          left (record {
            used = 8;
            root = 20 ∷ 2 ∷ [];
            settled = [];
            busy = [];
            fares = 0 ∷ 10 ∷ 110 ∷ 20 ∷ 120 ∷ 30 ∷ 130 ∷ [];
            figures = 0 ∷ 2 ∷ 0 ∷ 0 ∷ 3 ∷ 3 ∷ 8 ∷ 2 ∷ [];
            table =
                rec 1 4294967295 0 255 2 0
                ∷ rec 0 0 0 0 0 0
                ∷ rec 1 4294967295 0 255 11 4
                ∷ rec 0 0 0 0 0 0
                ∷ rec 1 4294967295 0 255 0 0
                ∷ rec 0 0 0 0 0 0
                ∷ rec 1 10 110 0 0 0
                ∷ rec 0 0 0 0 0 0
                ∷ rec 1 30 0 1 9 10
                ∷ rec 1 20 120 0 0 0
                ∷ rec 1 30 130 0 0 0
                ∷ rec 1 20 0 2 6 8
                ∷ [];
          });
    }
    -- 183: the record left is in state 2, no matter to a walk
    ∷ record {
      start = beside;
      lines =
          damage (task_is 0 (busy 30 0 (Walk (Serve LookUp) (path 2 11 8))))
          ∷ damage (field 8 0 2)
          ∷ call (step 0 1) 1 130
          ∷ [];
      after =
          left (record {
            used = 8;
            root = 20 ∷ 2 ∷ [];
            settled = [];
            busy = [];
            fares = 17 ∷ [];
            figures = 17 ∷ 0 ∷ 0 ∷ 0 ∷ 0 ∷ 0 ∷ 0 ∷ 0 ∷ [];
            table =
                rec 1 4294967295 0 255 2 0
                ∷ rec 0 0 0 0 0 0
                ∷ rec 1 4294967295 0 255 11 4
                ∷ rec 0 0 0 0 0 0
                ∷ rec 1 4294967295 0 255 0 0
                ∷ rec 0 0 0 0 0 0
                ∷ rec 1 10 110 0 0 0
                ∷ rec 0 0 0 0 0 0
                ∷ rec 2 30 0 1 9 10
                ∷ rec 1 20 120 0 0 0
                ∷ rec 1 30 130 0 0 0
                ∷ rec 1 20 0 2 6 8
                ∷ [];
          });
    }
    -- 184: 17, the record left is missing
    ∷ record {
      start = beside;
      lines =
          damage (task_is 0 (busy 30 0 (Walk (Serve LookUp) (path 2 11 0))))
          ∷ call (step 0 1) 17 0
          ∷ [];
      after = same;
    }
    -- 185: 17, the record left is outside the table
    ∷ record {
      start = beside;
      lines =
          damage (task_is 0 (busy 30 0 (Walk (Serve LookUp) (path 2 11 16))))
          ∷ call (step 0 1) 17 0
          ∷ [];
      after = same;
    }
    -- 186: 17, the record left is far outside the table
    ∷ record {
      start = beside;
      lines =
          damage (task_is 0 (busy 30 0 (Walk (Serve LookUp) (path 2 11 4294967295))))
          ∷ call (step 0 1) 17 0
          ∷ [];
      after = same;
    }
    -- 187: 17, the link to follow leads to the slot count, so the record left is not well formed
    ∷ record {
      start = beside;
      lines =
          damage (task_is 0 (busy 30 0 (Walk (Serve LookUp) (path 0 2 11))))
          ∷ damage (field 11 5 16)
          ∷ call (step 0 1) 17 0
          ∷ [];
      after = same;
    }
    -- 188: 17, the record left is a free slot
    ∷ record {
      start = beside;
      lines =
          damage (task_is 0 (busy 30 0 (Walk (Serve LookUp) (path 2 11 15))))
          ∷ call (step 0 1) 17 0
          ∷ [];
      after = same;
    }
    -- 189: 17, the record left is a leaf, so the record arrived at is missing
    ∷ record {
      start = beside;
      lines =
          damage (task_is 0 (busy 30 0 (Walk (Serve LookUp) (path 11 8 10))))
          ∷ call (step 0 1) 17 0
          ∷ [];
      after = same;
    }
    -- 190: grandparent and parent are not looked at on a walk
    ∷ record {
      start = beside;
      lines =
          damage (task_is 0 (busy 30 0 (Walk (Serve LookUp) (path 99 77 8))))
          ∷ call (step 0 1) 1 130
          ∷ [];
      after =
          left (record {
            used = 8;
            root = 20 ∷ 2 ∷ [];
            settled = [];
            busy = [];
            fares = 0 ∷ 10 ∷ 110 ∷ 20 ∷ 120 ∷ 30 ∷ 130 ∷ [];
            figures = 0 ∷ 2 ∷ 0 ∷ 0 ∷ 3 ∷ 3 ∷ 8 ∷ 2 ∷ [];
            table =
                rec 1 4294967295 0 255 2 0
                ∷ rec 0 0 0 0 0 0
                ∷ rec 1 4294967295 0 255 11 4
                ∷ rec 0 0 0 0 0 0
                ∷ rec 1 4294967295 0 255 0 0
                ∷ rec 0 0 0 0 0 0
                ∷ rec 1 10 110 0 0 0
                ∷ rec 0 0 0 0 0 0
                ∷ rec 1 30 0 1 9 10
                ∷ rec 1 20 120 0 0 0
                ∷ rec 1 30 130 0 0 0
                ∷ rec 1 20 0 2 6 8
                ∷ [];
          });
    }
    -- 191: 17, a free slot is arrived at
    ∷ record {
      start = beside;
      lines =
          damage (task_is 0 (busy 30 0 (Walk (Serve LookUp) (path 0 2 11))))
          ∷ damage (field 11 5 15)
          ∷ call (step 0 1) 17 0
          ∷ [];
      after = same;
    }
    -- 192: 17, state 0
    ∷ record {
      start = beside;
      lines =
          damage (task_is 0 (busy 30 0 (Walk (Serve LookUp) (path 0 2 11))))
          ∷ damage (field 8 0 0)
          ∷ call (step 0 1) 17 0
          ∷ [];
      after = same;
    }
    -- 193: 17, state 3
    ∷ record {
      start = beside;
      lines =
          damage (task_is 0 (busy 30 0 (Walk (Serve LookUp) (path 0 2 11))))
          ∷ damage (field 8 0 3)
          ∷ call (step 0 1) 17 0
          ∷ [];
      after = same;
    }
    -- 194: state 2 is well formed
    ∷ record {
      start = beside;
      lines =
          damage (task_is 0 (busy 30 0 (Walk (Serve LookUp) (path 0 2 11))))
          ∷ damage (field 8 0 2)
          ∷ call (step 0 1) 0 0
          ∷ call (step 0 1) 1 130
          ∷ [];
      after =
          left (record {
            used = 8;
            root = 20 ∷ 2 ∷ [];
            settled = [];
            busy = [];
            fares = 17 ∷ [];
            figures = 17 ∷ 0 ∷ 0 ∷ 0 ∷ 0 ∷ 0 ∷ 0 ∷ 0 ∷ [];
            table =
                rec 1 4294967295 0 255 2 0
                ∷ rec 0 0 0 0 0 0
                ∷ rec 1 4294967295 0 255 11 4
                ∷ rec 0 0 0 0 0 0
                ∷ rec 1 4294967295 0 255 0 0
                ∷ rec 0 0 0 0 0 0
                ∷ rec 1 10 110 0 0 0
                ∷ rec 0 0 0 0 0 0
                ∷ rec 2 30 0 1 9 10
                ∷ rec 1 20 120 0 0 0
                ∷ rec 1 30 130 0 0 0
                ∷ rec 1 20 0 2 6 8
                ∷ [];
          });
    }
    -- 195: 17, number 1,000,000
    ∷ record {
      start = beside;
      lines =
          damage (task_is 0 (busy 30 0 (Walk (Serve LookUp) (path 0 2 11))))
          ∷ damage (field 8 1 1000000)
          ∷ call (step 0 1) 17 0
          ∷ [];
      after = same;
    }
    -- 196: number 999,999
    ∷ record {
      start = beside;
      lines =
          damage (task_is 0 (busy 30 0 (Walk (Serve LookUp) (path 0 2 11))))
          ∷ damage (field 8 1 999999)
          ∷ call (step 0 1) 0 0
          ∷ call (step 0 1) 2 0
          ∷ [];
      after =
          left (record {
            used = 8;
            root = 20 ∷ 2 ∷ [];
            settled = [];
            busy = [];
            fares = 0 ∷ 10 ∷ 110 ∷ 20 ∷ 120 ∷ 30 ∷ 130 ∷ [];
            figures = 0 ∷ 2 ∷ 0 ∷ 0 ∷ 3 ∷ 3 ∷ 8 ∷ 2 ∷ [];
            table =
                rec 1 4294967295 0 255 2 0
                ∷ rec 0 0 0 0 0 0
                ∷ rec 1 4294967295 0 255 11 4
                ∷ rec 0 0 0 0 0 0
                ∷ rec 1 4294967295 0 255 0 0
                ∷ rec 0 0 0 0 0 0
                ∷ rec 1 10 110 0 0 0
                ∷ rec 0 0 0 0 0 0
                ∷ rec 1 999999 0 1 9 10
                ∷ rec 1 20 120 0 0 0
                ∷ rec 1 30 130 0 0 0
                ∷ rec 1 20 0 2 6 8
                ∷ [];
          });
    }
    -- 197: 17, an inner record with a price
    ∷ record {
      start = beside;
      lines =
          damage (task_is 0 (busy 30 0 (Walk (Serve LookUp) (path 0 2 11))))
          ∷ damage (field 8 2 1)
          ∷ call (step 0 1) 17 0
          ∷ [];
      after = same;
    }
    -- 198: 17, an inner record of rank 29
    ∷ record {
      start = beside;
      lines =
          damage (task_is 0 (busy 30 0 (Walk (Serve LookUp) (path 0 2 11))))
          ∷ damage (field 8 3 29)
          ∷ call (step 0 1) 17 0
          ∷ [];
      after = same;
    }
    -- 199: an inner record of rank 28
    ∷ record {
      start = beside;
      lines =
          damage (task_is 0 (busy 30 0 (Walk (Serve LookUp) (path 0 2 11))))
          ∷ damage (field 8 3 28)
          ∷ call (step 0 1) 0 0
          ∷ call (step 0 1) 1 130
          ∷ [];
      after =
          left (record {
            used = 8;
            root = 20 ∷ 2 ∷ [];
            settled = [];
            busy = [];
            fares = 0 ∷ 10 ∷ 110 ∷ 20 ∷ 120 ∷ 30 ∷ 130 ∷ [];
            figures = 0 ∷ 2 ∷ 0 ∷ 0 ∷ 3 ∷ 3 ∷ 8 ∷ 2 ∷ [];
            table =
                rec 1 4294967295 0 255 2 0
                ∷ rec 0 0 0 0 0 0
                ∷ rec 1 4294967295 0 255 11 4
                ∷ rec 0 0 0 0 0 0
                ∷ rec 1 4294967295 0 255 0 0
                ∷ rec 0 0 0 0 0 0
                ∷ rec 1 10 110 0 0 0
                ∷ rec 0 0 0 0 0 0
                ∷ rec 1 30 0 28 9 10
                ∷ rec 1 20 120 0 0 0
                ∷ rec 1 30 130 0 0 0
                ∷ rec 1 20 0 2 6 8
                ∷ [];
          });
    }
    -- 200: 17, an inner record of rank 0
    ∷ record {
      start = beside;
      lines =
          damage (task_is 0 (busy 30 0 (Walk (Serve LookUp) (path 0 2 11))))
          ∷ damage (field 8 3 0)
          ∷ call (step 0 1) 17 0
          ∷ [];
      after = same;
    }
    -- 201: an inner record of rank 1
    ∷ record {
      start = beside;
      lines =
          damage (task_is 0 (busy 30 0 (Walk (Serve LookUp) (path 0 2 11))))
          ∷ call (step 0 1) 0 0
          ∷ call (step 0 1) 1 130
          ∷ [];
      after =
          left (record {
            used = 8;
            root = 20 ∷ 2 ∷ [];
            settled = [];
            busy = [];
            fares = 0 ∷ 10 ∷ 110 ∷ 20 ∷ 120 ∷ 30 ∷ 130 ∷ [];
            figures = 0 ∷ 2 ∷ 0 ∷ 0 ∷ 3 ∷ 3 ∷ 8 ∷ 2 ∷ [];
            table =
                rec 1 4294967295 0 255 2 0
                ∷ rec 0 0 0 0 0 0
                ∷ rec 1 4294967295 0 255 11 4
                ∷ rec 0 0 0 0 0 0
                ∷ rec 1 4294967295 0 255 0 0
                ∷ rec 0 0 0 0 0 0
                ∷ rec 1 10 110 0 0 0
                ∷ rec 0 0 0 0 0 0
                ∷ rec 1 30 0 1 9 10
                ∷ rec 1 20 120 0 0 0
                ∷ rec 1 30 130 0 0 0
                ∷ rec 1 20 0 2 6 8
                ∷ [];
          });
    }
    -- 202: 17, the sentinels' number alone
    ∷ record {
      start = beside;
      lines =
          damage (task_is 0 (busy 30 0 (Walk (Serve LookUp) (path 0 2 11))))
          ∷ damage (field 8 1 4294967295)
          ∷ call (step 0 1) 17 0
          ∷ [];
      after = same;
    }
    -- 203: 17, the sentinels' rank alone
    ∷ record {
      start = beside;
      lines =
          damage (task_is 0 (busy 30 0 (Walk (Serve LookUp) (path 0 2 11))))
          ∷ damage (field 8 3 255)
          ∷ call (step 0 1) 17 0
          ∷ [];
      after = same;
    }
    -- 204: both sentinel marks on an inner record
    ∷ record {
      start = beside;
      lines =
          damage (task_is 0 (busy 30 0 (Walk (Serve LookUp) (path 0 2 11))))
          ∷ damage (field 8 1 4294967295)
          ∷ damage (field 8 3 255)
          ∷ call (step 0 1) 0 0
          ∷ call (step 0 1) 2 0
          ∷ [];
      after =
          left (record {
            used = 8;
            root = 20 ∷ 2 ∷ [];
            settled = [];
            busy = [];
            fares = 0 ∷ 10 ∷ 110 ∷ 20 ∷ 120 ∷ 30 ∷ 130 ∷ [];
            figures = 0 ∷ 2 ∷ 0 ∷ 0 ∷ 3 ∷ 3 ∷ 8 ∷ 2 ∷ [];
            table =
                rec 1 4294967295 0 255 2 0
                ∷ rec 0 0 0 0 0 0
                ∷ rec 1 4294967295 0 255 11 4
                ∷ rec 0 0 0 0 0 0
                ∷ rec 1 4294967295 0 255 0 0
                ∷ rec 0 0 0 0 0 0
                ∷ rec 1 10 110 0 0 0
                ∷ rec 0 0 0 0 0 0
                ∷ rec 1 4294967295 0 255 9 10
                ∷ rec 1 20 120 0 0 0
                ∷ rec 1 30 130 0 0 0
                ∷ rec 1 20 0 2 6 8
                ∷ [];
          });
    }
    -- 205: 17, both sentinel marks and a price
    ∷ record {
      start = beside;
      lines =
          damage (task_is 0 (busy 30 0 (Walk (Serve LookUp) (path 0 2 11))))
          ∷ damage (field 8 1 4294967295)
          ∷ damage (field 8 3 255)
          ∷ damage (field 8 2 1)
          ∷ call (step 0 1) 17 0
          ∷ [];
      after = same;
    }
    -- 206: 17, a right link alone
    ∷ record {
      start = beside;
      lines =
          damage (task_is 0 (busy 30 0 (Walk (Serve LookUp) (path 0 2 11))))
          ∷ damage (field 8 4 0)
          ∷ call (step 0 1) 17 0
          ∷ [];
      after = same;
    }
    -- 207: 17, a left link alone
    ∷ record {
      start = beside;
      lines =
          damage (task_is 0 (busy 30 0 (Walk (Serve LookUp) (path 0 2 11))))
          ∷ damage (field 8 5 0)
          ∷ call (step 0 1) 17 0
          ∷ [];
      after = same;
    }
    -- 208: 17, two equal links
    ∷ record {
      start = beside;
      lines =
          damage (task_is 0 (busy 30 0 (Walk (Serve LookUp) (path 0 2 11))))
          ∷ damage (field 8 4 10)
          ∷ call (step 0 1) 17 0
          ∷ [];
      after = same;
    }
    -- 209: 17, a left link at the slot count
    ∷ record {
      start = beside;
      lines =
          damage (task_is 0 (busy 30 0 (Walk (Serve LookUp) (path 0 2 11))))
          ∷ damage (field 8 4 16)
          ∷ call (step 0 1) 17 0
          ∷ [];
      after = same;
    }
    -- 210: 17, a right link at the slot count
    ∷ record {
      start = beside;
      lines =
          damage (task_is 0 (busy 30 0 (Walk (Serve LookUp) (path 0 2 11))))
          ∷ damage (field 8 5 16)
          ∷ call (step 0 1) 17 0
          ∷ [];
      after = same;
    }
    -- 211: links to the last slots, whatever is in them
    ∷ record {
      start = beside;
      lines =
          damage (task_is 0 (busy 30 0 (Walk (Serve LookUp) (path 0 2 11))))
          ∷ damage (field 8 4 14)
          ∷ damage (field 8 5 15)
          ∷ call (step 0 1) 0 0
          ∷ call (step 0 1) 17 0
          ∷ [];
      after = same;
    }
    -- 212: a link to itself is a link below the slot count
    ∷ record {
      start = beside;
      lines =
          damage (task_is 0 (busy 30 0 (Walk (Serve LookUp) (path 0 2 11))))
          ∷ damage (field 8 5 8)
          ∷ call (step 0 2) 0 0
          ∷ damage (field 8 5 10)
          ∷ call (step 0 1) 1 130
          ∷ [];
      after =
          left (record {
            used = 8;
            root = 20 ∷ 2 ∷ [];
            settled = [];
            busy = [];
            fares = 0 ∷ 10 ∷ 110 ∷ 20 ∷ 120 ∷ 30 ∷ 130 ∷ [];
            figures = 0 ∷ 2 ∷ 0 ∷ 0 ∷ 3 ∷ 3 ∷ 8 ∷ 2 ∷ [];
            table =
                rec 1 4294967295 0 255 2 0
                ∷ rec 0 0 0 0 0 0
                ∷ rec 1 4294967295 0 255 11 4
                ∷ rec 0 0 0 0 0 0
                ∷ rec 1 4294967295 0 255 0 0
                ∷ rec 0 0 0 0 0 0
                ∷ rec 1 10 110 0 0 0
                ∷ rec 0 0 0 0 0 0
                ∷ rec 1 30 0 1 9 10
                ∷ rec 1 20 120 0 0 0
                ∷ rec 1 30 130 0 0 0
                ∷ rec 1 20 0 2 6 8
                ∷ [];
          });
    }
    -- 213: 17, no links and rank 1: a leaf of rank 1
    ∷ record {
      start = beside;
      lines =
          damage (task_is 0 (busy 30 0 (Walk (Serve LookUp) (path 0 2 11))))
          ∷ damage (field 8 4 0)
          ∷ damage (field 8 5 0)
          ∷ call (step 0 1) 17 0
          ∷ [];
      after = same;
    }
    -- 214: no links and rank 0: a leaf
    ∷ record {
      start = beside;
      lines =
          damage (task_is 0 (busy 30 0 (Walk (Serve LookUp) (path 0 2 11))))
          ∷ damage (field 8 4 0)
          ∷ damage (field 8 5 0)
          ∷ damage (field 8 3 0)
          ∷ call (step 0 1) 1 0
          ∷ [];
      after =
          left (record {
            used = 8;
            root = 20 ∷ 2 ∷ [];
            settled = [];
            busy = [];
            fares = 0 ∷ 10 ∷ 110 ∷ 30 ∷ 0 ∷ [];
            figures = 0 ∷ 1 ∷ 0 ∷ 0 ∷ 3 ∷ 2 ∷ 8 ∷ 2 ∷ [];
            table =
                rec 1 4294967295 0 255 2 0
                ∷ rec 0 0 0 0 0 0
                ∷ rec 1 4294967295 0 255 11 4
                ∷ rec 0 0 0 0 0 0
                ∷ rec 1 4294967295 0 255 0 0
                ∷ rec 0 0 0 0 0 0
                ∷ rec 1 10 110 0 0 0
                ∷ rec 0 0 0 0 0 0
                ∷ rec 1 30 0 0 0 0
                ∷ rec 1 20 120 0 0 0
                ∷ rec 1 30 130 0 0 0
                ∷ rec 1 20 0 2 6 8
                ∷ [];
          });
    }
    -- 215: 17, a leaf's price is 100,000
    ∷ record {
      start = beside;
      lines =
          damage (task_is 0 (busy 30 0 (Walk (Serve LookUp) (path 2 11 8))))
          ∷ damage (field 10 2 100000)
          ∷ call (step 0 1) 17 0
          ∷ [];
      after = same;
    }
    -- 216: a leaf's price is 99,999
    ∷ record {
      start = beside;
      lines =
          damage (task_is 0 (busy 30 0 (Walk (Serve LookUp) (path 2 11 8))))
          ∷ damage (field 10 2 99999)
          ∷ call (step 0 1) 1 99999
          ∷ [];
      after =
          left (record {
            used = 8;
            root = 20 ∷ 2 ∷ [];
            settled = [];
            busy = [];
            fares = 0 ∷ 10 ∷ 110 ∷ 20 ∷ 120 ∷ 30 ∷ 99999 ∷ [];
            figures = 0 ∷ 2 ∷ 0 ∷ 0 ∷ 3 ∷ 3 ∷ 8 ∷ 2 ∷ [];
            table =
                rec 1 4294967295 0 255 2 0
                ∷ rec 0 0 0 0 0 0
                ∷ rec 1 4294967295 0 255 11 4
                ∷ rec 0 0 0 0 0 0
                ∷ rec 1 4294967295 0 255 0 0
                ∷ rec 0 0 0 0 0 0
                ∷ rec 1 10 110 0 0 0
                ∷ rec 0 0 0 0 0 0
                ∷ rec 1 30 0 1 9 10
                ∷ rec 1 20 120 0 0 0
                ∷ rec 1 30 99999 0 0 0
                ∷ rec 1 20 0 2 6 8
                ∷ [];
          });
    }
    -- 217: 17, a leaf of rank 1
    ∷ record {
      start = beside;
      lines =
          damage (task_is 0 (busy 30 0 (Walk (Serve LookUp) (path 2 11 8))))
          ∷ damage (field 10 3 1)
          ∷ call (step 0 1) 17 0
          ∷ [];
      after = same;
    }
    -- 218: 17, a leaf's number is 1,000,000
    ∷ record {
      start = beside;
      lines =
          damage (task_is 0 (busy 30 0 (Walk (Serve LookUp) (path 2 11 8))))
          ∷ damage (field 10 1 1000000)
          ∷ call (step 0 1) 17 0
          ∷ [];
      after = same;
    }
    -- 219: 17, a sentinel leaf with a price
    ∷ record {
      start = beside;
      lines =
          damage (task_is 0 (busy 30 0 (Walk (Serve LookUp) (path 2 11 8))))
          ∷ damage (field 10 1 4294967295)
          ∷ damage (field 10 3 255)
          ∷ call (step 0 1) 17 0
          ∷ [];
      after = same;
    }
    -- 220: a sentinel leaf without one ends the look up: not held
    ∷ record {
      start = beside;
      lines =
          damage (task_is 0 (busy 30 0 (Walk (Serve LookUp) (path 2 11 8))))
          ∷ damage (field 10 1 4294967295)
          ∷ damage (field 10 3 255)
          ∷ damage (field 10 2 0)
          ∷ call (step 0 1) 2 0
          ∷ [];
      after =
          left (record {
            used = 8;
            root = 20 ∷ 2 ∷ [];
            settled = [];
            busy = [];
            fares = 0 ∷ 10 ∷ 110 ∷ 20 ∷ 120 ∷ [];
            figures = 0 ∷ 2 ∷ 0 ∷ 0 ∷ 3 ∷ 2 ∷ 8 ∷ 2 ∷ [];
            table =
                rec 1 4294967295 0 255 2 0
                ∷ rec 0 0 0 0 0 0
                ∷ rec 1 4294967295 0 255 11 4
                ∷ rec 0 0 0 0 0 0
                ∷ rec 1 4294967295 0 255 0 0
                ∷ rec 0 0 0 0 0 0
                ∷ rec 1 10 110 0 0 0
                ∷ rec 0 0 0 0 0 0
                ∷ rec 1 30 0 1 9 10
                ∷ rec 1 20 120 0 0 0
                ∷ rec 1 4294967295 0 255 0 0
                ∷ rec 1 20 0 2 6 8
                ∷ [];
          });
    }
    -- 221: 17, slot 0 with a right link
    ∷ record {
      start = beside;
      lines =
          call (begin 0 LookUp 30 0) 0 0
          ∷ damage (field 0 5 11)
          ∷ call (step 0 1) 17 0
          ∷ [];
      after = same;
    }
    -- 222: 17, slot 0 without a left link
    ∷ record {
      start = beside;
      lines =
          call (begin 0 LookUp 30 0) 0 0
          ∷ damage (field 0 4 0)
          ∷ call (step 0 1) 17 0
          ∷ [];
      after = same;
    }
    -- 223: 17, slot 0 leads to the slot count
    ∷ record {
      start = beside;
      lines =
          call (begin 0 LookUp 30 0) 0 0
          ∷ damage (field 0 4 16)
          ∷ call (step 0 1) 17 0
          ∷ [];
      after = same;
    }
    -- 224: 17, slot 0 leads to a free slot: the record arrived at
    ∷ record {
      start = beside;
      lines =
          call (begin 0 LookUp 30 0) 0 0
          ∷ damage (field 0 4 15)
          ∷ call (step 0 1) 17 0
          ∷ [];
      after = same;
    }
    -- 225: slot 0 leads to another record
    ∷ record {
      start = beside;
      lines =
          call (begin 0 LookUp 30 0) 0 0
          ∷ damage (field 0 4 11)
          ∷ call (step 0 1) 0 0
          ∷ call (step 0 2) 1 130
          ∷ [];
      after =
          left (record {
            used = 8;
            root = 10 ∷ 0 ∷ [];
            settled = [];
            busy = [];
            fares = 0 ∷ 10 ∷ 110 ∷ 20 ∷ 120 ∷ 30 ∷ 130 ∷ [];
            figures = 0 ∷ 0 ∷ 0 ∷ 0 ∷ 3 ∷ 3 ∷ 8 ∷ 2 ∷ [];
            table =
                rec 1 4294967295 0 255 11 0
                ∷ rec 0 0 0 0 0 0
                ∷ rec 1 4294967295 0 255 11 4
                ∷ rec 0 0 0 0 0 0
                ∷ rec 1 4294967295 0 255 0 0
                ∷ rec 0 0 0 0 0 0
                ∷ rec 1 10 110 0 0 0
                ∷ rec 0 0 0 0 0 0
                ∷ rec 1 30 0 1 9 10
                ∷ rec 1 20 120 0 0 0
                ∷ rec 1 30 130 0 0 0
                ∷ rec 1 20 0 2 6 8
                ∷ [];
          });
    }
    -- 226: 17, slot 0 without the sentinels' number
    ∷ record {
      start = beside;
      lines =
          call (begin 0 LookUp 30 0) 0 0
          ∷ damage (field 0 1 30)
          ∷ call (step 0 1) 17 0
          ∷ [];
      after = same;
    }
    -- 227: 17, slot 0 without the sentinels' rank
    ∷ record {
      start = beside;
      lines =
          call (begin 0 LookUp 30 0) 0 0
          ∷ damage (field 0 3 28)
          ∷ call (step 0 1) 17 0
          ∷ [];
      after = same;
    }
    -- 228: 17, slot 0 with neither sentinel mark
    ∷ record {
      start = beside;
      lines =
          call (begin 0 LookUp 30 0) 0 0
          ∷ damage (field 0 1 30)
          ∷ damage (field 0 3 28)
          ∷ call (step 0 1) 17 0
          ∷ [];
      after = same;
    }
    -- 229: 17, slot 0 with a price
    ∷ record {
      start = beside;
      lines =
          call (begin 0 LookUp 30 0) 0 0
          ∷ damage (field 0 2 1)
          ∷ call (step 0 1) 17 0
          ∷ [];
      after = same;
    }
    -- 230: 17, slot 0 in state 0
    ∷ record {
      start = beside;
      lines =
          call (begin 0 LookUp 30 0) 0 0
          ∷ damage (field 0 0 0)
          ∷ call (step 0 1) 17 0
          ∷ [];
      after = same;
    }
    -- 231: 17, slot 0 in state 3
    ∷ record {
      start = beside;
      lines =
          call (begin 0 LookUp 30 0) 0 0
          ∷ damage (field 0 0 3)
          ∷ call (step 0 1) 17 0
          ∷ [];
      after = same;
    }
    -- 232: slot 0 in state 2 is well formed, no matter to a walk
    ∷ record {
      start = beside;
      lines =
          call (begin 0 LookUp 30 0) 0 0
          ∷ damage (field 0 0 2)
          ∷ call (step 0 1) 0 0
          ∷ call (step 0 3) 1 130
          ∷ [];
      after =
          left (record {
            used = 8;
            root = 20 ∷ 2 ∷ [];
            settled = [];
            busy = [];
            fares = 17 ∷ [];
            figures = 17 ∷ 0 ∷ 0 ∷ 0 ∷ 0 ∷ 0 ∷ 0 ∷ 0 ∷ [];
            table =
                rec 2 4294967295 0 255 2 0
                ∷ rec 0 0 0 0 0 0
                ∷ rec 1 4294967295 0 255 11 4
                ∷ rec 0 0 0 0 0 0
                ∷ rec 1 4294967295 0 255 0 0
                ∷ rec 0 0 0 0 0 0
                ∷ rec 1 10 110 0 0 0
                ∷ rec 0 0 0 0 0 0
                ∷ rec 1 30 0 1 9 10
                ∷ rec 1 20 120 0 0 0
                ∷ rec 1 30 130 0 0 0
                ∷ rec 1 20 0 2 6 8
                ∷ [];
          });
    }
    -- 233: a hurt slot 0 is no matter further down
    ∷ record {
      start = beside;
      lines =
          damage (task_is 0 (busy 30 0 (Walk (Serve LookUp) (path 2 11 8))))
          ∷ damage (field 0 4 0)
          ∷ call (step 0 1) 1 130
          ∷ [];
      after =
          left (record {
            used = 8;
            root = 0 ∷ 0 ∷ [];
            settled = [];
            busy = [];
            fares = 17 ∷ [];
            figures = 17 ∷ 0 ∷ 0 ∷ 0 ∷ 0 ∷ 0 ∷ 0 ∷ 0 ∷ [];
            table =
                rec 1 4294967295 0 255 0 0
                ∷ rec 0 0 0 0 0 0
                ∷ rec 1 4294967295 0 255 11 4
                ∷ rec 0 0 0 0 0 0
                ∷ rec 1 4294967295 0 255 0 0
                ∷ rec 0 0 0 0 0 0
                ∷ rec 1 10 110 0 0 0
                ∷ rec 0 0 0 0 0 0
                ∷ rec 1 30 0 1 9 10
                ∷ rec 1 20 120 0 0 0
                ∷ rec 1 30 130 0 0 0
                ∷ rec 1 20 0 2 6 8
                ∷ [];
          });
    }
    -- 234: 17, on a settling walk the record arrived at has rank 3, its parent 2
    ∷ record {
      start = beside;
      lines =
          damage (task_is 0 (busy 30 130 (Walk Settle (path 0 2 11))))
          ∷ damage (field 8 3 3)
          ∷ call (step 0 1) 17 0
          ∷ [];
      after = same;
    }
    -- 235: rank 2 below rank 2: level, the readings are next
    ∷ record {
      start = beside;
      lines =
          damage (task_is 0 (busy 30 130 (Walk Settle (path 0 2 11))))
          ∷ damage (field 8 3 2)
          ∷ call (step 0 1) 0 0
          ∷ call (step 0 4) 0 0
          ∷ [];
      after =
          left (record {
            used = 10;
            root = 30 ∷ 2 ∷ [];
            settled = 31 ∷ [];
            busy = 0 ∷ [];
            fares = 0 ∷ 10 ∷ 110 ∷ 20 ∷ 120 ∷ 30 ∷ 130 ∷ [];
            figures = 0 ∷ 2 ∷ 0 ∷ 1 ∷ 3 ∷ 3 ∷ 6 ∷ 2 ∷ [];
            table =
                rec 1 4294967295 0 255 2 0
                ∷ rec 1 30 0 2 3 10
                ∷ rec 1 4294967295 0 255 1 4
                ∷ rec 1 20 0 1 6 9
                ∷ rec 1 4294967295 0 255 0 0
                ∷ rec 0 0 0 0 0 0
                ∷ rec 1 10 110 0 0 0
                ∷ rec 0 0 0 0 0 0
                ∷ rec 2 30 0 2 9 10
                ∷ rec 1 20 120 0 0 0
                ∷ rec 1 30 130 0 0 0
                ∷ rec 2 20 0 2 6 8
                ∷ [];
          });
    }
    -- 236: rank 1 below rank 2: the walk goes on
    ∷ record {
      start = beside;
      lines =
          damage (task_is 0 (busy 30 130 (Walk Settle (path 0 2 11))))
          ∷ call (step 0 1) 0 0
          ∷ call (step 0 1) 3 0
          ∷ [];
      after =
          left (record {
            used = 8;
            root = 20 ∷ 2 ∷ [];
            settled = [];
            busy = [];
            fares = 0 ∷ 10 ∷ 110 ∷ 20 ∷ 120 ∷ 30 ∷ 130 ∷ [];
            figures = 0 ∷ 2 ∷ 0 ∷ 0 ∷ 3 ∷ 3 ∷ 8 ∷ 2 ∷ [];
            table =
                rec 1 4294967295 0 255 2 0
                ∷ rec 0 0 0 0 0 0
                ∷ rec 1 4294967295 0 255 11 4
                ∷ rec 0 0 0 0 0 0
                ∷ rec 1 4294967295 0 255 0 0
                ∷ rec 0 0 0 0 0 0
                ∷ rec 1 10 110 0 0 0
                ∷ rec 0 0 0 0 0 0
                ∷ rec 1 30 0 1 9 10
                ∷ rec 1 20 120 0 0 0
                ∷ rec 1 30 130 0 0 0
                ∷ rec 1 20 0 2 6 8
                ∷ [];
          });
    }
    -- 237: rank 3 below rank 2 is no matter to a put-in's walk
    ∷ record {
      start = beside;
      lines =
          damage (task_is 0 (busy 30 130 (Walk (Serve PutIn) (path 0 2 11))))
          ∷ damage (field 8 3 3)
          ∷ call (step 0 1) 0 0
          ∷ call (step 0 1) 4 0
          ∷ [];
      after =
          left (record {
            used = 8;
            root = 20 ∷ 2 ∷ [];
            settled = [];
            busy = [];
            fares = 0 ∷ 10 ∷ 110 ∷ 20 ∷ 120 ∷ 30 ∷ 130 ∷ [];
            figures = 0 ∷ 2 ∷ 0 ∷ 0 ∷ 3 ∷ 3 ∷ 8 ∷ 2 ∷ [];
            table =
                rec 1 4294967295 0 255 2 0
                ∷ rec 0 0 0 0 0 0
                ∷ rec 1 4294967295 0 255 11 4
                ∷ rec 0 0 0 0 0 0
                ∷ rec 1 4294967295 0 255 0 0
                ∷ rec 0 0 0 0 0 0
                ∷ rec 1 10 110 0 0 0
                ∷ rec 0 0 0 0 0 0
                ∷ rec 1 30 0 3 9 10
                ∷ rec 1 20 120 0 0 0
                ∷ rec 1 30 130 0 0 0
                ∷ rec 1 20 0 2 6 8
                ∷ [];
          });
    }
    -- 238: 17, a sentinel leaf outranks its parent, before the leaf's 3
    ∷ record {
      start = beside;
      lines =
          damage (task_is 0 (busy 30 130 (Walk Settle (path 2 11 8))))
          ∷ damage (field 10 1 4294967295)
          ∷ damage (field 10 3 255)
          ∷ damage (field 10 2 0)
          ∷ call (step 0 1) 17 0
          ∷ [];
      after = same;
    }
    -- 239: a fare's leaf gives the 3
    ∷ record {
      start = beside;
      lines =
          damage (task_is 0 (busy 30 130 (Walk Settle (path 2 11 8))))
          ∷ call (step 0 1) 3 0
          ∷ [];
      after =
          left (record {
            used = 8;
            root = 20 ∷ 2 ∷ [];
            settled = [];
            busy = [];
            fares = 0 ∷ 10 ∷ 110 ∷ 20 ∷ 120 ∷ 30 ∷ 130 ∷ [];
            figures = 0 ∷ 2 ∷ 0 ∷ 0 ∷ 3 ∷ 3 ∷ 8 ∷ 2 ∷ [];
            table =
                rec 1 4294967295 0 255 2 0
                ∷ rec 0 0 0 0 0 0
                ∷ rec 1 4294967295 0 255 11 4
                ∷ rec 0 0 0 0 0 0
                ∷ rec 1 4294967295 0 255 0 0
                ∷ rec 0 0 0 0 0 0
                ∷ rec 1 10 110 0 0 0
                ∷ rec 0 0 0 0 0 0
                ∷ rec 1 30 0 1 9 10
                ∷ rec 1 20 120 0 0 0
                ∷ rec 1 30 130 0 0 0
                ∷ rec 1 20 0 2 6 8
                ∷ [];
          });
    }
    -- 240: a sentinel below a sentinel is not level: the entry's child
    ∷ record {
      start = beside;
      lines =
          damage (task_is 0 (busy 30 130 (Start Settle)))
          ∷ call (step 0 1) 0 0
          ∷ call (step 0 3) 3 0
          ∷ [];
      after =
          left (record {
            used = 8;
            root = 20 ∷ 2 ∷ [];
            settled = [];
            busy = [];
            fares = 0 ∷ 10 ∷ 110 ∷ 20 ∷ 120 ∷ 30 ∷ 130 ∷ [];
            figures = 0 ∷ 2 ∷ 0 ∷ 0 ∷ 3 ∷ 3 ∷ 8 ∷ 2 ∷ [];
            table =
                rec 1 4294967295 0 255 2 0
                ∷ rec 0 0 0 0 0 0
                ∷ rec 1 4294967295 0 255 11 4
                ∷ rec 0 0 0 0 0 0
                ∷ rec 1 4294967295 0 255 0 0
                ∷ rec 0 0 0 0 0 0
                ∷ rec 1 10 110 0 0 0
                ∷ rec 0 0 0 0 0 0
                ∷ rec 1 30 0 1 9 10
                ∷ rec 1 20 120 0 0 0
                ∷ rec 1 30 130 0 0 0
                ∷ rec 1 20 0 2 6 8
                ∷ [];
          });
    }
    -- 241: a sentinel below a sentinel is not level: one step further
    ∷ record {
      start = beside;
      lines =
          damage (task_is 0 (busy 30 130 (Walk Settle (path 4294967295 0 2))))
          ∷ damage (field 11 1 4294967295)
          ∷ damage (field 11 3 255)
          ∷ call (step 0 1) 0 0
          ∷ call (step 0 1) 3 0
          ∷ [];
      after =
          left (record {
            used = 8;
            root = 4294967295 ∷ 255 ∷ [];
            settled = [];
            busy = [];
            fares = 0 ∷ 10 ∷ 110 ∷ 20 ∷ 120 ∷ 30 ∷ 130 ∷ [];
            figures = 0 ∷ 2 ∷ 0 ∷ 0 ∷ 3 ∷ 3 ∷ 8 ∷ 2 ∷ [];
            table =
                rec 1 4294967295 0 255 2 0
                ∷ rec 0 0 0 0 0 0
                ∷ rec 1 4294967295 0 255 11 4
                ∷ rec 0 0 0 0 0 0
                ∷ rec 1 4294967295 0 255 0 0
                ∷ rec 0 0 0 0 0 0
                ∷ rec 1 10 110 0 0 0
                ∷ rec 0 0 0 0 0 0
                ∷ rec 1 30 0 1 9 10
                ∷ rec 1 20 120 0 0 0
                ∷ rec 1 30 130 0 0 0
                ∷ rec 1 4294967295 0 255 6 8
                ∷ [];
          });
    }
    -- 242: a sentinel leaf below a sentinel ends settling with 3
    ∷ record {
      start = beside;
      lines =
          damage (task_is 0 (busy 30 130 (Start Settle)))
          ∷ damage (field 0 4 4)
          ∷ call (step 0 1) 3 0
          ∷ [];
      after =
          left (record {
            used = 8;
            root = 0 ∷ 0 ∷ [];
            settled = [];
            busy = [];
            fares = 0 ∷ [];
            figures = 0 ∷ 0 ∷ 0 ∷ 0 ∷ 3 ∷ 0 ∷ 8 ∷ 2 ∷ [];
            table =
                rec 1 4294967295 0 255 4 0
                ∷ rec 0 0 0 0 0 0
                ∷ rec 1 4294967295 0 255 11 4
                ∷ rec 0 0 0 0 0 0
                ∷ rec 1 4294967295 0 255 0 0
                ∷ rec 0 0 0 0 0 0
                ∷ rec 1 10 110 0 0 0
                ∷ rec 0 0 0 0 0 0
                ∷ rec 1 30 0 1 9 10
                ∷ rec 1 20 120 0 0 0
                ∷ rec 1 30 130 0 0 0
                ∷ rec 1 20 0 2 6 8
                ∷ [];
          });
    }
    -- 243: 17, the parent read is not well formed
    ∷ record {
      start = beside;
      lines =
          call (begin 0 PutIn 35 135) 0 0
          ∷ call (step 0 4) 0 0
          ∷ damage (field 8 2 1)
          ∷ call (step 0 1) 17 0
          ∷ [];
      after = same;
    }
    -- 244: the parent is read
    ∷ record {
      start = beside;
      lines =
          call (begin 0 PutIn 35 135) 0 0
          ∷ call (step 0 4) 0 0
          ∷ call (step 0 3) 0 0
          ∷ [];
      after =
          left (record {
            used = 11;
            root = 20 ∷ 2 ∷ [];
            settled = [];
            busy = 0 ∷ [];
            fares = 0 ∷ 10 ∷ 110 ∷ 20 ∷ 120 ∷ 30 ∷ 130 ∷ 35 ∷ 135 ∷ [];
            figures = 0 ∷ 3 ∷ 1 ∷ 1 ∷ 4 ∷ 4 ∷ 5 ∷ 3 ∷ [];
            table =
                rec 1 4294967295 0 255 2 0
                ∷ rec 1 35 0 1 3 5
                ∷ rec 1 4294967295 0 255 11 4
                ∷ rec 1 30 130 0 0 0
                ∷ rec 1 4294967295 0 255 0 0
                ∷ rec 1 35 135 0 0 0
                ∷ rec 1 10 110 0 0 0
                ∷ rec 0 0 0 0 0 0
                ∷ rec 1 30 0 1 9 1
                ∷ rec 1 20 120 0 0 0
                ∷ rec 2 30 130 0 0 0
                ∷ rec 1 20 0 2 6 8
                ∷ [];
          });
    }
    -- 245: the parent is in state 2: the walk starts again
    ∷ record {
      start = beside;
      lines =
          call (begin 0 PutIn 35 135) 0 0
          ∷ call (step 0 4) 0 0
          ∷ damage (field 8 0 2)
          ∷ call (step 0 1) 0 0
          ∷ damage (field 0 2 1)
          ∷ call (step 0 1) 17 0
          ∷ [];
      after = same;
    }
    -- 246: 17, the parent is in state 2 and not well formed
    ∷ record {
      start = beside;
      lines =
          call (begin 0 PutIn 35 135) 0 0
          ∷ call (step 0 4) 0 0
          ∷ damage (field 8 0 2)
          ∷ damage (field 8 2 1)
          ∷ call (step 0 1) 17 0
          ∷ [];
      after = same;
    }
    -- 247: neither of the parent's links leads to the leaf: the walk starts again
    ∷ record {
      start = beside;
      lines =
          call (begin 0 PutIn 35 135) 0 0
          ∷ call (step 0 4) 0 0
          ∷ damage (field 8 5 15)
          ∷ call (step 0 1) 0 0
          ∷ damage (field 0 2 1)
          ∷ call (step 0 1) 17 0
          ∷ [];
      after = same;
    }
    -- 248: 17, the parent is outside the table
    ∷ record {
      start = beside;
      lines =
          damage (task_is 0 (busy 35 135 (PuttingIn (path 11 16 10) PutParent)))
          ∷ call (step 0 1) 17 0
          ∷ [];
      after = same;
    }
    -- 249: 17, the parent is a free slot
    ∷ record {
      start = beside;
      lines =
          damage (task_is 0 (busy 35 135 (PuttingIn (path 11 15 10) PutParent)))
          ∷ call (step 0 1) 17 0
          ∷ [];
      after = same;
    }
    -- 250: 17, the parent is the entry, and it leads to the slot count
    ∷ record {
      start = beside;
      lines =
          damage (task_is 0 (busy 35 135 (PuttingIn (path 4294967295 0 2) PutParent)))
          ∷ damage (field 0 4 16)
          ∷ call (step 0 1) 17 0
          ∷ [];
      after = same;
    }
    -- 251: the parent is the entry, and it leads elsewhere: the walk starts again
    ∷ record {
      start = beside;
      lines =
          damage (task_is 0 (busy 35 135 (PuttingIn (path 4294967295 0 2) PutParent)))
          ∷ damage (field 0 4 11)
          ∷ call (step 0 1) 0 0
          ∷ damage (field 0 2 1)
          ∷ call (step 0 1) 17 0
          ∷ [];
      after = same;
    }
    -- 252: the entry is a proper parent
    ∷ record {
      start = beside;
      lines =
          damage (task_is 0 (busy 35 135 (PuttingIn (path 4294967295 0 2) PutParent)))
          ∷ call (step 0 2) 0 0
          ∷ call (step 0 1) 17 0
          ∷ [];
      after = same;
    }
    -- 253: the entry's missing right link leads nowhere: the walk starts again
    ∷ record {
      start = beside;
      lines =
          damage (task_is 0 (busy 35 135 (PuttingIn (path 4294967295 0 0) PutParent)))
          ∷ call (step 0 1) 0 0
          ∷ call (step 0 6) 0 0
          ∷ call (step 0 1) 0 0
          ∷ [];
      after =
          left (record {
            used = 11;
            root = 20 ∷ 2 ∷ [];
            settled = [];
            busy = 0 ∷ [];
            fares = 0 ∷ 10 ∷ 110 ∷ 20 ∷ 120 ∷ 30 ∷ 130 ∷ 35 ∷ 135 ∷ [];
            figures = 0 ∷ 3 ∷ 1 ∷ 1 ∷ 4 ∷ 4 ∷ 5 ∷ 3 ∷ [];
            table =
                rec 1 4294967295 0 255 2 0
                ∷ rec 1 35 0 1 3 5
                ∷ rec 1 4294967295 0 255 11 4
                ∷ rec 1 30 130 0 0 0
                ∷ rec 1 4294967295 0 255 0 0
                ∷ rec 1 35 135 0 0 0
                ∷ rec 1 10 110 0 0 0
                ∷ rec 0 0 0 0 0 0
                ∷ rec 1 30 0 1 9 1
                ∷ rec 1 20 120 0 0 0
                ∷ rec 2 30 130 0 0 0
                ∷ rec 1 20 0 2 6 8
                ∷ [];
          });
    }
    -- 254: the grandparent is not looked at
    ∷ record {
      start = beside;
      lines =
          damage (task_is 0 (busy 35 135 (PuttingIn (path 99 8 10) PutParent)))
          ∷ call (step 0 3) 0 0
          ∷ [];
      after =
          left (record {
            used = 11;
            root = 20 ∷ 2 ∷ [];
            settled = [];
            busy = 0 ∷ [];
            fares = 0 ∷ 10 ∷ 110 ∷ 20 ∷ 120 ∷ 30 ∷ 130 ∷ 35 ∷ 135 ∷ [];
            figures = 0 ∷ 3 ∷ 1 ∷ 1 ∷ 4 ∷ 4 ∷ 5 ∷ 3 ∷ [];
            table =
                rec 1 4294967295 0 255 2 0
                ∷ rec 1 35 0 1 3 5
                ∷ rec 1 4294967295 0 255 11 4
                ∷ rec 1 30 130 0 0 0
                ∷ rec 1 4294967295 0 255 0 0
                ∷ rec 1 35 135 0 0 0
                ∷ rec 1 10 110 0 0 0
                ∷ rec 0 0 0 0 0 0
                ∷ rec 1 30 0 1 9 1
                ∷ rec 1 20 120 0 0 0
                ∷ rec 2 30 130 0 0 0
                ∷ rec 1 20 0 2 6 8
                ∷ [];
          });
    }
    -- 255: 17, the leaf read is not well formed
    ∷ record {
      start = beside;
      lines =
          call (begin 0 PutIn 35 135) 0 0
          ∷ call (step 0 5) 0 0
          ∷ damage (field 10 2 100000)
          ∷ call (step 0 1) 17 0
          ∷ [];
      after = same;
    }
    -- 256: the leaf is read
    ∷ record {
      start = beside;
      lines =
          call (begin 0 PutIn 35 135) 0 0
          ∷ call (step 0 5) 0 0
          ∷ call (step 0 2) 0 0
          ∷ [];
      after =
          left (record {
            used = 11;
            root = 20 ∷ 2 ∷ [];
            settled = [];
            busy = 0 ∷ [];
            fares = 0 ∷ 10 ∷ 110 ∷ 20 ∷ 120 ∷ 30 ∷ 130 ∷ 35 ∷ 135 ∷ [];
            figures = 0 ∷ 3 ∷ 1 ∷ 1 ∷ 4 ∷ 4 ∷ 5 ∷ 3 ∷ [];
            table =
                rec 1 4294967295 0 255 2 0
                ∷ rec 1 35 0 1 3 5
                ∷ rec 1 4294967295 0 255 11 4
                ∷ rec 1 30 130 0 0 0
                ∷ rec 1 4294967295 0 255 0 0
                ∷ rec 1 35 135 0 0 0
                ∷ rec 1 10 110 0 0 0
                ∷ rec 0 0 0 0 0 0
                ∷ rec 1 30 0 1 9 1
                ∷ rec 1 20 120 0 0 0
                ∷ rec 2 30 130 0 0 0
                ∷ rec 1 20 0 2 6 8
                ∷ [];
          });
    }
    -- 257: the leaf is in state 2: the walk starts again
    ∷ record {
      start = beside;
      lines =
          call (begin 0 PutIn 35 135) 0 0
          ∷ call (step 0 5) 0 0
          ∷ damage (field 10 0 2)
          ∷ call (step 0 1) 0 0
          ∷ damage (field 0 2 1)
          ∷ call (step 0 1) 17 0
          ∷ [];
      after = same;
    }
    -- 258: the leaf's reading does not look at the parent
    ∷ record {
      start = beside;
      lines =
          call (begin 0 PutIn 35 135) 0 0
          ∷ call (step 0 5) 0 0
          ∷ damage (field 8 2 1)
          ∷ call (step 0 1) 0 0
          ∷ damage (field 8 2 0)
          ∷ call (step 0 1) 0 0
          ∷ [];
      after =
          left (record {
            used = 11;
            root = 20 ∷ 2 ∷ [];
            settled = [];
            busy = 0 ∷ [];
            fares = 0 ∷ 10 ∷ 110 ∷ 20 ∷ 120 ∷ 30 ∷ 130 ∷ 35 ∷ 135 ∷ [];
            figures = 0 ∷ 3 ∷ 1 ∷ 1 ∷ 4 ∷ 4 ∷ 5 ∷ 3 ∷ [];
            table =
                rec 1 4294967295 0 255 2 0
                ∷ rec 1 35 0 1 3 5
                ∷ rec 1 4294967295 0 255 11 4
                ∷ rec 1 30 130 0 0 0
                ∷ rec 1 4294967295 0 255 0 0
                ∷ rec 1 35 135 0 0 0
                ∷ rec 1 10 110 0 0 0
                ∷ rec 0 0 0 0 0 0
                ∷ rec 1 30 0 1 9 1
                ∷ rec 1 20 120 0 0 0
                ∷ rec 2 30 130 0 0 0
                ∷ rec 1 20 0 2 6 8
                ∷ [];
          });
    }
    -- 259: 17, the leaf is missing
    ∷ record {
      start = beside;
      lines =
          damage (task_is 0 (busy 35 135 (PuttingIn (path 11 8 0) (PutLeaf (links 9 10)))))
          ∷ call (step 0 1) 17 0
          ∷ [];
      after = same;
    }
    -- 260: 17, the leaf is outside the table
    ∷ record {
      start = beside;
      lines =
          damage (task_is 0 (busy 35 135 (PuttingIn (path 11 8 16) (PutLeaf (links 9 16)))))
          ∷ call (step 0 1) 17 0
          ∷ [];
      after = same;
    }
    -- 261: 17, the grandparent read is not well formed
    ∷ record {
      start = beside;
      lines =
          call (begin 0 TakeOut 30 0) 0 0
          ∷ call (step 0 4) 0 0
          ∷ damage (field 11 2 1)
          ∷ call (step 0 1) 17 0
          ∷ [];
      after = same;
    }
    -- 262: the grandparent is in state 2: the walk starts again
    ∷ record {
      start = beside;
      lines =
          call (begin 0 TakeOut 30 0) 0 0
          ∷ call (step 0 4) 0 0
          ∷ damage (field 11 0 2)
          ∷ call (step 0 1) 0 0
          ∷ damage (field 0 2 1)
          ∷ call (step 0 1) 17 0
          ∷ [];
      after = same;
    }
    -- 263: neither of its links leads to the parent: the walk starts again
    ∷ record {
      start = beside;
      lines =
          call (begin 0 TakeOut 30 0) 0 0
          ∷ call (step 0 4) 0 0
          ∷ damage (field 11 5 15)
          ∷ call (step 0 1) 0 0
          ∷ damage (field 0 2 1)
          ∷ call (step 0 1) 17 0
          ∷ [];
      after = same;
    }
    -- 264: 17, the grandparent is missing: the leaf hangs on the entry
    ∷ record {
      start = beside;
      lines =
          damage (field 0 4 6)
          ∷ call (begin 0 TakeOut 10 0) 0 0
          ∷ call (step 0 1) 0 0
          ∷ call (step 0 1) 17 0
          ∷ [];
      after = same;
    }
    -- 265: the grandparent is the entry: one record lower
    ∷ record {
      start = beside;
      lines =
          damage (field 2 4 6)
          ∷ call (begin 0 TakeOut 10 0) 0 0
          ∷ call (step 0 2) 0 0
          ∷ call (step 0 5) 5 0
          ∷ [];
      after =
          left (record {
            used = 9;
            root = 0 ∷ 0 ∷ [];
            settled = [];
            busy = [];
            fares = 0 ∷ [];
            figures = 0 ∷ 0 ∷ 0 ∷ 0 ∷ 3 ∷ 0 ∷ 7 ∷ 2 ∷ [];
            table =
                rec 1 4294967295 0 255 1 0
                ∷ rec 1 4294967295 0 255 0 0
                ∷ rec 2 4294967295 0 255 6 4
                ∷ rec 0 0 0 0 0 0
                ∷ rec 2 4294967295 0 255 0 0
                ∷ rec 0 0 0 0 0 0
                ∷ rec 2 10 110 0 0 0
                ∷ rec 0 0 0 0 0 0
                ∷ rec 1 30 0 1 9 10
                ∷ rec 1 20 120 0 0 0
                ∷ rec 1 30 130 0 0 0
                ∷ rec 1 20 0 2 6 8
                ∷ [];
          });
    }
    -- 266: 17, the grandparent is outside the table
    ∷ record {
      start = beside;
      lines =
          damage (task_is 0 (busy 30 0 (TakingOut (path 16 8 10) TakeGrand)))
          ∷ call (step 0 1) 17 0
          ∷ [];
      after = same;
    }
    -- 267: the entry is nobody's child: its missing right link does not lead to a parent in slot 0
    ∷ record {
      start = beside;
      lines =
          damage (task_is 0 (busy 30 0 (TakingOut (path 0 0 2) TakeGrand)))
          ∷ call (step 0 1) 0 0
          ∷ call (step 0 9) 5 0
          ∷ [];
      after =
          left (record {
            used = 9;
            root = 20 ∷ 2 ∷ [];
            settled = [];
            busy = [];
            fares = 0 ∷ 10 ∷ 110 ∷ 20 ∷ 120 ∷ [];
            figures = 0 ∷ 1 ∷ 0 ∷ 0 ∷ 3 ∷ 2 ∷ 7 ∷ 2 ∷ [];
            table =
                rec 1 4294967295 0 255 2 0
                ∷ rec 1 20 120 0 0 0
                ∷ rec 1 4294967295 0 255 11 4
                ∷ rec 0 0 0 0 0 0
                ∷ rec 1 4294967295 0 255 0 0
                ∷ rec 0 0 0 0 0 0
                ∷ rec 1 10 110 0 0 0
                ∷ rec 0 0 0 0 0 0
                ∷ rec 2 30 0 1 9 10
                ∷ rec 2 20 120 0 0 0
                ∷ rec 2 30 130 0 0 0
                ∷ rec 1 20 0 2 6 1
                ∷ [];
          });
    }
    -- 268: 17, the parent read is not well formed
    ∷ record {
      start = beside;
      lines =
          call (begin 0 TakeOut 30 0) 0 0
          ∷ call (step 0 5) 0 0
          ∷ damage (field 8 2 1)
          ∷ call (step 0 1) 17 0
          ∷ [];
      after = same;
    }
    -- 269: the parent is in state 2: the walk starts again
    ∷ record {
      start = beside;
      lines =
          call (begin 0 TakeOut 30 0) 0 0
          ∷ call (step 0 5) 0 0
          ∷ damage (field 8 0 2)
          ∷ call (step 0 1) 0 0
          ∷ damage (field 0 2 1)
          ∷ call (step 0 1) 17 0
          ∷ [];
      after = same;
    }
    -- 270: neither of its links leads to the leaf: the walk starts again
    ∷ record {
      start = beside;
      lines =
          call (begin 0 TakeOut 30 0) 0 0
          ∷ call (step 0 5) 0 0
          ∷ damage (field 8 5 15)
          ∷ call (step 0 1) 0 0
          ∷ damage (field 0 2 1)
          ∷ call (step 0 1) 17 0
          ∷ [];
      after = same;
    }
    -- 271: the parent's reading does not look at the grandparent
    ∷ record {
      start = beside;
      lines =
          call (begin 0 TakeOut 30 0) 0 0
          ∷ call (step 0 5) 0 0
          ∷ damage (field 11 2 1)
          ∷ call (step 0 1) 0 0
          ∷ damage (field 11 2 0)
          ∷ call (step 0 3) 5 0
          ∷ [];
      after =
          left (record {
            used = 9;
            root = 20 ∷ 2 ∷ [];
            settled = [];
            busy = [];
            fares = 0 ∷ 10 ∷ 110 ∷ 20 ∷ 120 ∷ [];
            figures = 0 ∷ 1 ∷ 0 ∷ 0 ∷ 3 ∷ 2 ∷ 7 ∷ 2 ∷ [];
            table =
                rec 1 4294967295 0 255 2 0
                ∷ rec 1 20 120 0 0 0
                ∷ rec 1 4294967295 0 255 11 4
                ∷ rec 0 0 0 0 0 0
                ∷ rec 1 4294967295 0 255 0 0
                ∷ rec 0 0 0 0 0 0
                ∷ rec 1 10 110 0 0 0
                ∷ rec 0 0 0 0 0 0
                ∷ rec 2 30 0 1 9 10
                ∷ rec 2 20 120 0 0 0
                ∷ rec 2 30 130 0 0 0
                ∷ rec 1 20 0 2 6 1
                ∷ [];
          });
    }
    -- 272: 17, the left child read is not well formed
    ∷ record {
      start = beside;
      lines =
          call (begin 0 TakeOut 30 0) 0 0
          ∷ call (step 0 6) 0 0
          ∷ damage (field 9 2 100000)
          ∷ call (step 0 1) 17 0
          ∷ [];
      after = same;
    }
    -- 273: the left child is in state 2: the walk starts again
    ∷ record {
      start = beside;
      lines =
          call (begin 0 TakeOut 30 0) 0 0
          ∷ call (step 0 6) 0 0
          ∷ damage (field 9 0 2)
          ∷ call (step 0 1) 0 0
          ∷ damage (field 0 2 1)
          ∷ call (step 0 1) 17 0
          ∷ [];
      after = same;
    }
    -- 274: 17, the left child is missing: the noted link is 0
    ∷ record {
      start = beside;
      lines =
          damage (task_is 0 (busy 30 0 (TakingOut (path 11 8 10) (TakeLeft (links 6 8) (links 0 10)))))
          ∷ call (step 0 1) 17 0
          ∷ [];
      after = same;
    }
    -- 275: 17, the left child is outside the table
    ∷ record {
      start = beside;
      lines =
          damage (task_is 0 (busy 30 0 (TakingOut (path 11 8 10) (TakeLeft (links 6 8) (links 16 10)))))
          ∷ call (step 0 1) 17 0
          ∷ [];
      after = same;
    }
    -- 276: the left child is the one that was noted, not the one of now
    ∷ record {
      start = beside;
      lines =
          damage (task_is 0 (busy 30 0 (TakingOut (path 11 8 10) (TakeLeft (links 6 8) (links 9 10)))))
          ∷ damage (field 8 4 15)
          ∷ call (step 0 1) 0 0
          ∷ damage (field 8 4 9)
          ∷ call (step 0 2) 5 0
          ∷ [];
      after =
          left (record {
            used = 9;
            root = 20 ∷ 2 ∷ [];
            settled = [];
            busy = [];
            fares = 0 ∷ 10 ∷ 110 ∷ 20 ∷ 120 ∷ [];
            figures = 0 ∷ 1 ∷ 0 ∷ 0 ∷ 3 ∷ 2 ∷ 7 ∷ 2 ∷ [];
            table =
                rec 1 4294967295 0 255 2 0
                ∷ rec 1 20 120 0 0 0
                ∷ rec 1 4294967295 0 255 11 4
                ∷ rec 0 0 0 0 0 0
                ∷ rec 1 4294967295 0 255 0 0
                ∷ rec 0 0 0 0 0 0
                ∷ rec 1 10 110 0 0 0
                ∷ rec 0 0 0 0 0 0
                ∷ rec 2 30 0 1 9 10
                ∷ rec 2 20 120 0 0 0
                ∷ rec 2 30 130 0 0 0
                ∷ rec 1 20 0 2 6 1
                ∷ [];
          });
    }
    -- 277: 17, the right child read is not well formed
    ∷ record {
      start = beside;
      lines =
          call (begin 0 TakeOut 30 0) 0 0
          ∷ call (step 0 7) 0 0
          ∷ damage (field 10 2 100000)
          ∷ call (step 0 1) 17 0
          ∷ [];
      after = same;
    }
    -- 278: the right child is in state 2: the walk starts again
    ∷ record {
      start = beside;
      lines =
          call (begin 0 TakeOut 30 0) 0 0
          ∷ call (step 0 7) 0 0
          ∷ damage (field 10 0 2)
          ∷ call (step 0 1) 0 0
          ∷ damage (field 0 2 1)
          ∷ call (step 0 1) 17 0
          ∷ [];
      after = same;
    }
    -- 279: 17, the right child is missing: the noted link is 0
    ∷ record {
      start = beside;
      lines =
          damage (task_is 0 (busy 30 0 (TakingOut (path 11 8 10) (TakeRight (links 6 8) (links 9 0) (links 0 0)))))
          ∷ call (step 0 1) 17 0
          ∷ [];
      after = same;
    }
    -- 280: 17, the right child is outside the table
    ∷ record {
      start = beside;
      lines =
          damage (task_is 0 (busy 30 0 (TakingOut (path 11 8 10) (TakeRight (links 6 8) (links 9 16) (links 0 0)))))
          ∷ call (step 0 1) 17 0
          ∷ [];
      after = same;
    }
    -- 281: the right child's reading looks at nothing else
    ∷ record {
      start = beside;
      lines =
          call (begin 0 TakeOut 30 0) 0 0
          ∷ call (step 0 7) 0 0
          ∷ damage (field 11 2 1)
          ∷ damage (field 8 2 1)
          ∷ damage (field 9 2 100000)
          ∷ call (step 0 1) 0 0
          ∷ damage (field 11 2 0)
          ∷ damage (field 8 2 0)
          ∷ damage (field 9 2 120)
          ∷ call (step 0 1) 5 0
          ∷ [];
      after =
          left (record {
            used = 9;
            root = 20 ∷ 2 ∷ [];
            settled = [];
            busy = [];
            fares = 0 ∷ 10 ∷ 110 ∷ 20 ∷ 120 ∷ [];
            figures = 0 ∷ 1 ∷ 0 ∷ 0 ∷ 3 ∷ 2 ∷ 7 ∷ 2 ∷ [];
            table =
                rec 1 4294967295 0 255 2 0
                ∷ rec 1 20 120 0 0 0
                ∷ rec 1 4294967295 0 255 11 4
                ∷ rec 0 0 0 0 0 0
                ∷ rec 1 4294967295 0 255 0 0
                ∷ rec 0 0 0 0 0 0
                ∷ rec 1 10 110 0 0 0
                ∷ rec 0 0 0 0 0 0
                ∷ rec 2 30 0 1 9 10
                ∷ rec 2 20 120 0 0 0
                ∷ rec 2 30 130 0 0 0
                ∷ rec 1 20 0 2 6 1
                ∷ [];
          });
    }
    -- 282: a put-in's commit whose test holds
    ∷ record {
      start = beside;
      lines =
          damage (task_is 0 (busy 35 135 (PuttingIn (path 11 8 10) (PutCommit (links 9 10) (links 0 0)))))
          ∷ call (step 0 1) 0 0
          ∷ [];
      after =
          left (record {
            used = 11;
            root = 20 ∷ 2 ∷ [];
            settled = [];
            busy = 0 ∷ [];
            fares = 0 ∷ 10 ∷ 110 ∷ 20 ∷ 120 ∷ 30 ∷ 130 ∷ 35 ∷ 135 ∷ [];
            figures = 0 ∷ 3 ∷ 1 ∷ 1 ∷ 4 ∷ 4 ∷ 5 ∷ 3 ∷ [];
            table =
                rec 1 4294967295 0 255 2 0
                ∷ rec 1 35 0 1 3 5
                ∷ rec 1 4294967295 0 255 11 4
                ∷ rec 1 30 130 0 0 0
                ∷ rec 1 4294967295 0 255 0 0
                ∷ rec 1 35 135 0 0 0
                ∷ rec 1 10 110 0 0 0
                ∷ rec 0 0 0 0 0 0
                ∷ rec 1 30 0 1 9 1
                ∷ rec 1 20 120 0 0 0
                ∷ rec 2 30 130 0 0 0
                ∷ rec 1 20 0 2 6 8
                ∷ [];
          });
    }
    -- 283: the grandparent is not looked at
    ∷ record {
      start = beside;
      lines =
          damage (task_is 0 (busy 35 135 (PuttingIn (path 99 8 10) (PutCommit (links 9 10) (links 0 0)))))
          ∷ call (step 0 1) 0 0
          ∷ [];
      after =
          left (record {
            used = 11;
            root = 20 ∷ 2 ∷ [];
            settled = [];
            busy = 0 ∷ [];
            fares = 0 ∷ 10 ∷ 110 ∷ 20 ∷ 120 ∷ 30 ∷ 130 ∷ 35 ∷ 135 ∷ [];
            figures = 0 ∷ 3 ∷ 1 ∷ 1 ∷ 4 ∷ 4 ∷ 5 ∷ 3 ∷ [];
            table =
                rec 1 4294967295 0 255 2 0
                ∷ rec 1 35 0 1 3 5
                ∷ rec 1 4294967295 0 255 11 4
                ∷ rec 1 30 130 0 0 0
                ∷ rec 1 4294967295 0 255 0 0
                ∷ rec 1 35 135 0 0 0
                ∷ rec 1 10 110 0 0 0
                ∷ rec 0 0 0 0 0 0
                ∷ rec 1 30 0 1 9 1
                ∷ rec 1 20 120 0 0 0
                ∷ rec 2 30 130 0 0 0
                ∷ rec 1 20 0 2 6 8
                ∷ [];
          });
    }
    -- 284: 17, parent and leaf are one and the same
    ∷ record {
      start = beside;
      lines =
          damage (task_is 0 (busy 35 135 (PuttingIn (path 11 10 10) (PutCommit (links 9 10) (links 0 0)))))
          ∷ call (step 0 1) 17 0
          ∷ [];
      after = same;
    }
    -- 285: 17, the parent's noted links do not lead to the leaf
    ∷ record {
      start = beside;
      lines =
          damage (task_is 0 (busy 35 135 (PuttingIn (path 11 8 10) (PutCommit (links 9 12) (links 0 0)))))
          ∷ call (step 0 1) 17 0
          ∷ [];
      after = same;
    }
    -- 286: they lead to it, but are not the links of now: the walk starts again
    ∷ record {
      start = beside;
      lines =
          damage (task_is 0 (busy 35 135 (PuttingIn (path 11 8 10) (PutCommit (links 10 9) (links 0 0)))))
          ∷ call (step 0 1) 0 0
          ∷ damage (field 0 2 1)
          ∷ call (step 0 1) 17 0
          ∷ [];
      after = same;
    }
    -- 287: 17, the put-in stands on an inner record
    ∷ record {
      start = beside;
      lines =
          damage (task_is 0 (busy 35 135 (PuttingIn (path 2 11 8) (PutCommit (links 6 8) (links 9 10)))))
          ∷ call (step 0 1) 17 0
          ∷ [];
      after = same;
    }
    -- 288: 17, the put-in stands on a leaf of its own number
    ∷ record {
      start = beside;
      lines =
          damage (task_is 0 (busy 30 135 (PuttingIn (path 11 8 10) (PutCommit (links 9 10) (links 0 0)))))
          ∷ call (step 0 1) 17 0
          ∷ [];
      after = same;
    }
    -- 289: 17, the put-in stands on a leaf of its own number, and the test would fail
    ∷ record {
      start = beside;
      lines =
          damage (task_is 0 (busy 30 135 (PuttingIn (path 11 8 10) (PutCommit (links 9 10) (links 0 0)))))
          ∷ damage (field 8 0 2)
          ∷ call (step 0 1) 17 0
          ∷ [];
      after = same;
    }
    -- 290: 17, the leaf has got the put-in's number meanwhile
    ∷ record {
      start = beside;
      lines =
          damage (task_is 0 (busy 35 135 (PuttingIn (path 11 8 10) (PutCommit (links 9 10) (links 0 0)))))
          ∷ damage (field 10 1 35)
          ∷ call (step 0 1) 17 0
          ∷ [];
      after = same;
    }
    -- 291: 17, the leaf became an inner record: no failed test
    ∷ record {
      start = beside;
      lines =
          damage (task_is 0 (busy 35 135 (PuttingIn (path 11 8 10) (PutCommit (links 9 10) (links 0 0)))))
          ∷ damage (field 10 2 0)
          ∷ damage (field 10 3 1)
          ∷ damage (field 10 4 12)
          ∷ damage (field 10 5 13)
          ∷ call (step 0 1) 17 0
          ∷ [];
      after = same;
    }
    -- 292: noted links of the leaf other than its own: the walk starts again
    ∷ record {
      start = beside;
      lines =
          damage (task_is 0 (busy 35 135 (PuttingIn (path 11 8 10) (PutCommit (links 9 10) (links 5 7)))))
          ∷ call (step 0 1) 0 0
          ∷ damage (field 0 2 1)
          ∷ call (step 0 1) 17 0
          ∷ [];
      after = same;
    }
    -- 293: 17, the parent is not well formed at the commit
    ∷ record {
      start = beside;
      lines =
          damage (task_is 0 (busy 35 135 (PuttingIn (path 11 8 10) (PutCommit (links 9 10) (links 0 0)))))
          ∷ damage (field 8 2 1)
          ∷ call (step 0 1) 17 0
          ∷ [];
      after = same;
    }
    -- 294: 17, the parent is not well formed, and the test would fail
    ∷ record {
      start = beside;
      lines =
          damage (task_is 0 (busy 35 135 (PuttingIn (path 11 8 10) (PutCommit (links 9 10) (links 0 0)))))
          ∷ damage (field 8 2 1)
          ∷ damage (field 10 0 2)
          ∷ call (step 0 1) 17 0
          ∷ [];
      after = same;
    }
    -- 295: the parent is in state 2 at the commit: the walk starts again
    ∷ record {
      start = beside;
      lines =
          damage (task_is 0 (busy 35 135 (PuttingIn (path 11 8 10) (PutCommit (links 9 10) (links 0 0)))))
          ∷ damage (field 8 0 2)
          ∷ call (step 0 1) 0 0
          ∷ damage (field 0 2 1)
          ∷ call (step 0 1) 17 0
          ∷ [];
      after = same;
    }
    -- 296: a link of the parent to elsewhere has changed: the walk starts again
    ∷ record {
      start = beside;
      lines =
          damage (task_is 0 (busy 35 135 (PuttingIn (path 11 8 10) (PutCommit (links 9 10) (links 0 0)))))
          ∷ damage (field 8 4 15)
          ∷ call (step 0 1) 0 0
          ∷ damage (field 0 2 1)
          ∷ call (step 0 1) 17 0
          ∷ [];
      after = same;
    }
    -- 297: 17, the leaf is not well formed at the commit
    ∷ record {
      start = beside;
      lines =
          damage (task_is 0 (busy 35 135 (PuttingIn (path 11 8 10) (PutCommit (links 9 10) (links 0 0)))))
          ∷ damage (field 10 2 100000)
          ∷ call (step 0 1) 17 0
          ∷ [];
      after = same;
    }
    -- 298: the leaf is in state 2 at the commit: the walk starts again
    ∷ record {
      start = beside;
      lines =
          damage (task_is 0 (busy 35 135 (PuttingIn (path 11 8 10) (PutCommit (links 9 10) (links 0 0)))))
          ∷ damage (field 10 0 2)
          ∷ call (step 0 1) 0 0
          ∷ damage (field 0 2 1)
          ∷ call (step 0 1) 17 0
          ∷ [];
      after = same;
    }
    -- 299: 17, the parent is outside the table at the commit
    ∷ record {
      start = beside;
      lines =
          damage (task_is 0 (busy 35 135 (PuttingIn (path 11 16 10) (PutCommit (links 9 10) (links 0 0)))))
          ∷ call (step 0 1) 17 0
          ∷ [];
      after = same;
    }
    -- 300: 17, the leaf is outside the table at the commit
    ∷ record {
      start = beside;
      lines =
          damage (task_is 0 (busy 35 135 (PuttingIn (path 11 8 16) (PutCommit (links 9 16) (links 0 0)))))
          ∷ call (step 0 1) 17 0
          ∷ [];
      after = same;
    }
    -- 301: 17, the leaf is missing at the commit
    ∷ record {
      start = beside;
      lines =
          damage (task_is 0 (busy 35 135 (PuttingIn (path 11 8 0) (PutCommit (links 9 0) (links 0 0)))))
          ∷ call (step 0 1) 17 0
          ∷ [];
      after = same;
    }
    -- 302: a sentinel's leaf is a leaf of another number: new records of rank 255 at its place
    ∷ record {
      start = beside;
      lines =
          damage (task_is 0 (busy 35 135 (PuttingIn (path 0 2 4) (PutCommit (links 11 4) (links 0 0)))))
          ∷ call (step 0 1) 3 0
          ∷ [];
      after =
          left (record {
            used = 11;
            root = 20 ∷ 2 ∷ [];
            settled = [];
            busy = [];
            fares = 0 ∷ 10 ∷ 110 ∷ 20 ∷ 120 ∷ 30 ∷ 130 ∷ 35 ∷ 135 ∷ [];
            figures = 0 ∷ 2 ∷ 0 ∷ 0 ∷ 4 ∷ 4 ∷ 5 ∷ 3 ∷ [];
            table =
                rec 1 4294967295 0 255 2 0
                ∷ rec 1 4294967295 0 255 3 5
                ∷ rec 1 4294967295 0 255 11 1
                ∷ rec 1 35 135 0 0 0
                ∷ rec 2 4294967295 0 255 0 0
                ∷ rec 1 4294967295 0 255 0 0
                ∷ rec 1 10 110 0 0 0
                ∷ rec 0 0 0 0 0 0
                ∷ rec 1 30 0 1 9 10
                ∷ rec 1 20 120 0 0 0
                ∷ rec 1 30 130 0 0 0
                ∷ rec 1 20 0 2 6 8
                ∷ [];
          });
    }
    -- 303: a slot in state 0 is free, whatever else is in it
    ∷ record {
      start = beside;
      lines =
          damage (task_is 0 (busy 35 135 (PuttingIn (path 11 8 10) (PutCommit (links 9 10) (links 0 0)))))
          ∷ damage (field 1 1 77)
          ∷ damage (field 1 3 9)
          ∷ damage (field 1 4 3)
          ∷ call (step 0 1) 0 0
          ∷ [];
      after =
          left (record {
            used = 11;
            root = 20 ∷ 2 ∷ [];
            settled = [];
            busy = 0 ∷ [];
            fares = 0 ∷ 10 ∷ 110 ∷ 20 ∷ 120 ∷ 30 ∷ 130 ∷ 35 ∷ 135 ∷ [];
            figures = 0 ∷ 3 ∷ 1 ∷ 1 ∷ 4 ∷ 4 ∷ 5 ∷ 3 ∷ [];
            table =
                rec 1 4294967295 0 255 2 0
                ∷ rec 1 35 0 1 3 5
                ∷ rec 1 4294967295 0 255 11 4
                ∷ rec 1 30 130 0 0 0
                ∷ rec 1 4294967295 0 255 0 0
                ∷ rec 1 35 135 0 0 0
                ∷ rec 1 10 110 0 0 0
                ∷ rec 0 0 0 0 0 0
                ∷ rec 1 30 0 1 9 1
                ∷ rec 1 20 120 0 0 0
                ∷ rec 2 30 130 0 0 0
                ∷ rec 1 20 0 2 6 8
                ∷ [];
          });
    }
    -- 304: the scan for free slots begins at slot 1: slot 0 in state 0 is nobody's child
    ∷ record {
      start = beside;
      lines =
          damage (task_is 0 (busy 35 135 (PuttingIn (path 11 8 10) (PutCommit (links 9 10) (links 0 0)))))
          ∷ damage (field 0 0 0)
          ∷ call (step 0 1) 0 0
          ∷ [];
      after =
          left (record {
            used = 10;
            root = 20 ∷ 2 ∷ [];
            settled = [];
            busy = 0 ∷ [];
            fares = 17 ∷ [];
            figures = 17 ∷ 0 ∷ 0 ∷ 0 ∷ 0 ∷ 0 ∷ 0 ∷ 0 ∷ [];
            table =
                rec 0 4294967295 0 255 2 0
                ∷ rec 1 35 0 1 3 5
                ∷ rec 1 4294967295 0 255 11 4
                ∷ rec 1 30 130 0 0 0
                ∷ rec 1 4294967295 0 255 0 0
                ∷ rec 1 35 135 0 0 0
                ∷ rec 1 10 110 0 0 0
                ∷ rec 0 0 0 0 0 0
                ∷ rec 1 30 0 1 9 1
                ∷ rec 1 20 120 0 0 0
                ∷ rec 2 30 130 0 0 0
                ∷ rec 1 20 0 2 6 8
                ∷ [];
          });
    }
    -- 305: a take-out's commit whose test holds
    ∷ record {
      start = beside;
      lines =
          damage (task_is 0 (busy 30 0 (TakingOut (path 11 8 10) (TakeCommit (links 6 8) (links 9 10) (links 0 0) (links 0 0)))))
          ∷ call (step 0 1) 5 0
          ∷ [];
      after =
          left (record {
            used = 9;
            root = 20 ∷ 2 ∷ [];
            settled = [];
            busy = [];
            fares = 0 ∷ 10 ∷ 110 ∷ 20 ∷ 120 ∷ [];
            figures = 0 ∷ 1 ∷ 0 ∷ 0 ∷ 3 ∷ 2 ∷ 7 ∷ 2 ∷ [];
            table =
                rec 1 4294967295 0 255 2 0
                ∷ rec 1 20 120 0 0 0
                ∷ rec 1 4294967295 0 255 11 4
                ∷ rec 0 0 0 0 0 0
                ∷ rec 1 4294967295 0 255 0 0
                ∷ rec 0 0 0 0 0 0
                ∷ rec 1 10 110 0 0 0
                ∷ rec 0 0 0 0 0 0
                ∷ rec 2 30 0 1 9 10
                ∷ rec 2 20 120 0 0 0
                ∷ rec 2 30 130 0 0 0
                ∷ rec 1 20 0 2 6 1
                ∷ [];
          });
    }
    -- 306: 17, grandparent and parent are one and the same
    ∷ record {
      start = beside;
      lines =
          damage (task_is 0 (busy 30 0 (TakingOut (path 8 8 10) (TakeCommit (links 6 8) (links 9 10) (links 0 0) (links 0 0)))))
          ∷ call (step 0 1) 17 0
          ∷ [];
      after = same;
    }
    -- 307: 17, grandparent and left child are one and the same
    ∷ record {
      start = beside;
      lines =
          damage (task_is 0 (busy 30 0 (TakingOut (path 9 8 10) (TakeCommit (links 6 8) (links 9 10) (links 0 0) (links 0 0)))))
          ∷ call (step 0 1) 17 0
          ∷ [];
      after = same;
    }
    -- 308: 17, grandparent and right child are one and the same
    ∷ record {
      start = beside;
      lines =
          damage (task_is 0 (busy 30 0 (TakingOut (path 10 8 10) (TakeCommit (links 6 8) (links 9 10) (links 0 0) (links 0 0)))))
          ∷ call (step 0 1) 17 0
          ∷ [];
      after = same;
    }
    -- 309: 17, parent and left child are one and the same
    ∷ record {
      start = beside;
      lines =
          damage (task_is 0 (busy 30 0 (TakingOut (path 11 8 10) (TakeCommit (links 6 8) (links 8 10) (links 0 0) (links 0 0)))))
          ∷ call (step 0 1) 17 0
          ∷ [];
      after = same;
    }
    -- 310: 17, parent and right child are one and the same
    ∷ record {
      start = beside;
      lines =
          damage (task_is 0 (busy 30 0 (TakingOut (path 11 8 10) (TakeCommit (links 6 8) (links 10 8) (links 0 0) (links 0 0)))))
          ∷ call (step 0 1) 17 0
          ∷ [];
      after = same;
    }
    -- 311: 17, left and right child are one and the same
    ∷ record {
      start = beside;
      lines =
          damage (task_is 0 (busy 30 0 (TakingOut (path 11 8 10) (TakeCommit (links 6 8) (links 10 10) (links 0 0) (links 0 0)))))
          ∷ call (step 0 1) 17 0
          ∷ [];
      after = same;
    }
    -- 312: left and right child the other way round: four records, the walk starts again
    ∷ record {
      start = beside;
      lines =
          damage (task_is 0 (busy 30 0 (TakingOut (path 11 8 10) (TakeCommit (links 6 8) (links 10 9) (links 0 0) (links 0 0)))))
          ∷ call (step 0 1) 0 0
          ∷ damage (field 0 2 1)
          ∷ call (step 0 1) 17 0
          ∷ [];
      after = same;
    }
    -- 313: 17, the grandparent's noted links do not lead to the parent
    ∷ record {
      start = beside;
      lines =
          damage (task_is 0 (busy 30 0 (TakingOut (path 11 8 10) (TakeCommit (links 6 12) (links 9 10) (links 0 0) (links 0 0)))))
          ∷ call (step 0 1) 17 0
          ∷ [];
      after = same;
    }
    -- 314: they lead to it, but are not the links of now: the walk starts again
    ∷ record {
      start = beside;
      lines =
          damage (task_is 0 (busy 30 0 (TakingOut (path 11 8 10) (TakeCommit (links 12 8) (links 9 10) (links 0 0) (links 0 0)))))
          ∷ call (step 0 1) 0 0
          ∷ damage (field 0 2 1)
          ∷ call (step 0 1) 17 0
          ∷ [];
      after = same;
    }
    -- 315: 17, the parent's noted links do not lead to the leaf
    ∷ record {
      start = beside;
      lines =
          damage (task_is 0 (busy 10 0 (TakingOut (path 11 8 6) (TakeCommit (links 6 8) (links 9 10) (links 0 0) (links 0 0)))))
          ∷ damage (field 10 1 10)
          ∷ call (step 0 1) 17 0
          ∷ [];
      after = same;
    }
    -- 316: 17, the take-out stands on another number's leaf
    ∷ record {
      start = beside;
      lines =
          damage (task_is 0 (busy 31 0 (TakingOut (path 11 8 10) (TakeCommit (links 6 8) (links 9 10) (links 0 0) (links 0 0)))))
          ∷ call (step 0 1) 17 0
          ∷ [];
      after = same;
    }
    -- 317: 17, the take-out stands on another number's leaf, and the test would fail
    ∷ record {
      start = beside;
      lines =
          damage (task_is 0 (busy 31 0 (TakingOut (path 11 8 10) (TakeCommit (links 6 8) (links 9 10) (links 0 0) (links 0 0)))))
          ∷ damage (field 11 0 2)
          ∷ call (step 0 1) 17 0
          ∷ [];
      after = same;
    }
    -- 318: 17, the leaf has got another number meanwhile
    ∷ record {
      start = beside;
      lines =
          damage (task_is 0 (busy 30 0 (TakingOut (path 11 8 10) (TakeCommit (links 6 8) (links 9 10) (links 0 0) (links 0 0)))))
          ∷ damage (field 10 1 31)
          ∷ call (step 0 1) 17 0
          ∷ [];
      after = same;
    }
    -- 319: 17, the take-out stands on an inner record of its own number
    ∷ record {
      start = beside;
      lines =
          damage (task_is 0 (busy 30 0 (TakingOut (path 2 11 8) (TakeCommit (links 11 4) (links 6 8) (links 0 0) (links 9 10)))))
          ∷ call (step 0 1) 17 0
          ∷ [];
      after = same;
    }
    -- 320: 17, the take-out stands on an inner record of its own number, and the test would fail
    ∷ record {
      start = beside;
      lines =
          damage (task_is 0 (busy 30 0 (TakingOut (path 2 11 8) (TakeCommit (links 11 4) (links 6 8) (links 0 0) (links 9 10)))))
          ∷ damage (field 2 0 2)
          ∷ call (step 0 1) 17 0
          ∷ [];
      after = same;
    }
    -- 321: 17, the grandparent is not well formed at the commit
    ∷ record {
      start = beside;
      lines =
          damage (task_is 0 (busy 30 0 (TakingOut (path 11 8 10) (TakeCommit (links 6 8) (links 9 10) (links 0 0) (links 0 0)))))
          ∷ damage (field 11 2 1)
          ∷ call (step 0 1) 17 0
          ∷ [];
      after = same;
    }
    -- 322: 17, the parent is not well formed at the commit
    ∷ record {
      start = beside;
      lines =
          damage (task_is 0 (busy 30 0 (TakingOut (path 11 8 10) (TakeCommit (links 6 8) (links 9 10) (links 0 0) (links 0 0)))))
          ∷ damage (field 8 2 1)
          ∷ call (step 0 1) 17 0
          ∷ [];
      after = same;
    }
    -- 323: 17, the sibling is not well formed at the commit
    ∷ record {
      start = beside;
      lines =
          damage (task_is 0 (busy 30 0 (TakingOut (path 11 8 10) (TakeCommit (links 6 8) (links 9 10) (links 0 0) (links 0 0)))))
          ∷ damage (field 9 2 100000)
          ∷ call (step 0 1) 17 0
          ∷ [];
      after = same;
    }
    -- 324: 17, the leaf is not well formed at the commit
    ∷ record {
      start = beside;
      lines =
          damage (task_is 0 (busy 30 0 (TakingOut (path 11 8 10) (TakeCommit (links 6 8) (links 9 10) (links 0 0) (links 0 0)))))
          ∷ damage (field 10 2 100000)
          ∷ call (step 0 1) 17 0
          ∷ [];
      after = same;
    }
    -- 325: 17, the sibling is not well formed, and the test would fail
    ∷ record {
      start = beside;
      lines =
          damage (task_is 0 (busy 30 0 (TakingOut (path 11 8 10) (TakeCommit (links 6 8) (links 9 10) (links 0 0) (links 0 0)))))
          ∷ damage (field 9 2 100000)
          ∷ damage (field 11 0 2)
          ∷ call (step 0 1) 17 0
          ∷ [];
      after = same;
    }
    -- 326: 17, the grandparent is missing at the commit
    ∷ record {
      start = beside;
      lines =
          damage (task_is 0 (busy 30 0 (TakingOut (path 4294967295 8 10) (TakeCommit (links 6 8) (links 9 10) (links 0 0) (links 0 0)))))
          ∷ call (step 0 1) 17 0
          ∷ [];
      after = same;
    }
    -- 327: 17, the sibling is missing at the commit: the noted link is 0
    ∷ record {
      start = beside;
      lines =
          damage (task_is 0 (busy 30 0 (TakingOut (path 11 8 10) (TakeCommit (links 6 8) (links 0 10) (links 0 0) (links 0 0)))))
          ∷ call (step 0 1) 17 0
          ∷ [];
      after = same;
    }
    -- 328: 17, the sibling is outside the table at the commit
    ∷ record {
      start = beside;
      lines =
          damage (task_is 0 (busy 30 0 (TakingOut (path 11 8 10) (TakeCommit (links 6 8) (links 16 10) (links 0 0) (links 0 0)))))
          ∷ call (step 0 1) 17 0
          ∷ [];
      after = same;
    }
    -- 329: the grandparent is in state 2: the walk starts again
    ∷ record {
      start = beside;
      lines =
          damage (task_is 0 (busy 30 0 (TakingOut (path 11 8 10) (TakeCommit (links 6 8) (links 9 10) (links 0 0) (links 0 0)))))
          ∷ damage (field 11 0 2)
          ∷ call (step 0 1) 0 0
          ∷ damage (field 0 2 1)
          ∷ call (step 0 1) 17 0
          ∷ [];
      after = same;
    }
    -- 330: the parent is in state 2: the walk starts again
    ∷ record {
      start = beside;
      lines =
          damage (task_is 0 (busy 30 0 (TakingOut (path 11 8 10) (TakeCommit (links 6 8) (links 9 10) (links 0 0) (links 0 0)))))
          ∷ damage (field 8 0 2)
          ∷ call (step 0 1) 0 0
          ∷ damage (field 0 2 1)
          ∷ call (step 0 1) 17 0
          ∷ [];
      after = same;
    }
    -- 331: the leaf is in state 2: the walk starts again
    ∷ record {
      start = beside;
      lines =
          damage (task_is 0 (busy 30 0 (TakingOut (path 11 8 10) (TakeCommit (links 6 8) (links 9 10) (links 0 0) (links 0 0)))))
          ∷ damage (field 10 0 2)
          ∷ call (step 0 1) 0 0
          ∷ damage (field 0 2 1)
          ∷ call (step 0 1) 17 0
          ∷ [];
      after = same;
    }
    -- 332: the sibling is in state 2: the walk starts again
    ∷ record {
      start = beside;
      lines =
          damage (task_is 0 (busy 30 0 (TakingOut (path 11 8 10) (TakeCommit (links 6 8) (links 9 10) (links 0 0) (links 0 0)))))
          ∷ damage (field 9 0 2)
          ∷ call (step 0 1) 0 0
          ∷ damage (field 0 2 1)
          ∷ call (step 0 1) 17 0
          ∷ [];
      after = same;
    }
    -- 333: the sibling's noted links are not its own: the walk starts again
    ∷ record {
      start = beside;
      lines =
          damage (task_is 0 (busy 30 0 (TakingOut (path 11 8 10) (TakeCommit (links 6 8) (links 9 10) (links 12 13) (links 0 0)))))
          ∷ call (step 0 1) 0 0
          ∷ damage (field 0 2 1)
          ∷ call (step 0 1) 17 0
          ∷ [];
      after = same;
    }
    -- 334: the take-out of a left leaf: the sibling on the right is copied with rank and links
    ∷ record {
      start = beside;
      lines =
          damage (task_is 0 (busy 10 0 (TakingOut (path 2 11 6) (TakeCommit (links 11 4) (links 6 8) (links 0 0) (links 9 10)))))
          ∷ call (step 0 1) 5 0
          ∷ [];
      after =
          left (record {
            used = 9;
            root = 30 ∷ 1 ∷ [];
            settled = [];
            busy = [];
            fares = 0 ∷ 20 ∷ 120 ∷ 30 ∷ 130 ∷ [];
            figures = 0 ∷ 1 ∷ 0 ∷ 0 ∷ 3 ∷ 2 ∷ 7 ∷ 2 ∷ [];
            table =
                rec 1 4294967295 0 255 2 0
                ∷ rec 1 30 0 1 9 10
                ∷ rec 1 4294967295 0 255 1 4
                ∷ rec 0 0 0 0 0 0
                ∷ rec 1 4294967295 0 255 0 0
                ∷ rec 0 0 0 0 0 0
                ∷ rec 2 10 110 0 0 0
                ∷ rec 0 0 0 0 0 0
                ∷ rec 2 30 0 1 9 10
                ∷ rec 1 20 120 0 0 0
                ∷ rec 1 30 130 0 0 0
                ∷ rec 2 20 0 2 6 8
                ∷ [];
          });
    }
    -- 335: base: 10 and 20 put in, 30 committed, task 0 about to read pz; pz, z, s, x are 2, 5, 6, 8
    ∷ record {
      start = anew 16;
      lines =
          call (begin 0 PutIn 10 110) 0 0
          ∷ call (step 0 4) 3 0
          ∷ call (begin 0 PutIn 20 120) 0 0
          ∷ call (step 0 5) 3 0
          ∷ call (begin 0 PutIn 30 130) 0 0
          ∷ call (step 0 9) 0 0
          ∷ [];
      after =
          left (record {
            used = 11;
            root = 20 ∷ 1 ∷ [];
            settled = [];
            busy = 0 ∷ [];
            fares = 0 ∷ 10 ∷ 110 ∷ 20 ∷ 120 ∷ 30 ∷ 130 ∷ [];
            figures = 0 ∷ 2 ∷ 1 ∷ 1 ∷ 3 ∷ 3 ∷ 5 ∷ 2 ∷ [];
            table =
                rec 1 4294967295 0 255 2 0
                ∷ rec 2 4294967295 0 255 0 0
                ∷ rec 1 4294967295 0 255 5 4
                ∷ rec 2 10 110 0 0 0
                ∷ rec 1 4294967295 0 255 0 0
                ∷ rec 1 20 0 1 6 8
                ∷ rec 1 10 110 0 0 0
                ∷ rec 2 20 120 0 0 0
                ∷ rec 1 30 0 1 9 10
                ∷ rec 1 20 120 0 0 0
                ∷ rec 1 30 130 0 0 0
                ∷ [];
          });
    }
    -- 336: pz, then z is read, then the promote is made
    ∷ record {
      start = onward;
      lines =
          call (step 0 3) 0 0
          ∷ [];
      after =
          left (record {
            used = 12;
            root = 20 ∷ 2 ∷ [];
            settled = 21 ∷ [];
            busy = 0 ∷ [];
            fares = 0 ∷ 10 ∷ 110 ∷ 20 ∷ 120 ∷ 30 ∷ 130 ∷ [];
            figures = 0 ∷ 2 ∷ 0 ∷ 1 ∷ 3 ∷ 3 ∷ 4 ∷ 2 ∷ [];
            table =
                rec 1 4294967295 0 255 2 0
                ∷ rec 2 4294967295 0 255 0 0
                ∷ rec 1 4294967295 0 255 11 4
                ∷ rec 2 10 110 0 0 0
                ∷ rec 1 4294967295 0 255 0 0
                ∷ rec 2 20 0 1 6 8
                ∷ rec 1 10 110 0 0 0
                ∷ rec 2 20 120 0 0 0
                ∷ rec 1 30 0 1 9 10
                ∷ rec 1 20 120 0 0 0
                ∷ rec 1 30 130 0 0 0
                ∷ rec 1 20 0 2 6 8
                ∷ [];
          });
    }
    -- 337: 17, pz is not well formed
    ∷ record {
      start = beside;
      lines =
          damage (field 2 2 1)
          ∷ call (step 0 1) 17 0
          ∷ [];
      after = same;
    }
    -- 338: pz is in state 2: the walk starts again
    ∷ record {
      start = beside;
      lines =
          damage (field 2 0 2)
          ∷ call (step 0 1) 0 0
          ∷ damage (field 0 2 1)
          ∷ call (step 0 1) 17 0
          ∷ [];
      after = same;
    }
    -- 339: neither of pz's links leads to z: the walk starts again
    ∷ record {
      start = beside;
      lines =
          damage (field 2 4 15)
          ∷ call (step 0 1) 0 0
          ∷ damage (field 0 2 1)
          ∷ call (step 0 1) 17 0
          ∷ [];
      after = same;
    }
    -- 340: the reading of pz looks at nothing else
    ∷ record {
      start = beside;
      lines =
          damage (field 5 2 1)
          ∷ damage (field 6 2 100000)
          ∷ damage (field 8 2 1)
          ∷ call (step 0 1) 0 0
          ∷ damage (field 5 2 0)
          ∷ damage (field 6 2 110)
          ∷ damage (field 8 2 0)
          ∷ call (step 0 2) 0 0
          ∷ [];
      after =
          left (record {
            used = 12;
            root = 20 ∷ 2 ∷ [];
            settled = 21 ∷ [];
            busy = 0 ∷ [];
            fares = 0 ∷ 10 ∷ 110 ∷ 20 ∷ 120 ∷ 30 ∷ 130 ∷ [];
            figures = 0 ∷ 2 ∷ 0 ∷ 1 ∷ 3 ∷ 3 ∷ 4 ∷ 2 ∷ [];
            table =
                rec 1 4294967295 0 255 2 0
                ∷ rec 2 4294967295 0 255 0 0
                ∷ rec 1 4294967295 0 255 11 4
                ∷ rec 2 10 110 0 0 0
                ∷ rec 1 4294967295 0 255 0 0
                ∷ rec 2 20 0 1 6 8
                ∷ rec 1 10 110 0 0 0
                ∷ rec 2 20 120 0 0 0
                ∷ rec 1 30 0 1 9 10
                ∷ rec 1 20 120 0 0 0
                ∷ rec 1 30 130 0 0 0
                ∷ rec 1 20 0 2 6 8
                ∷ [];
          });
    }
    -- 341: 17, pz is missing
    ∷ record {
      start = beside;
      lines =
          damage (task_is 0 (busy 30 130 (Settling (path 4294967295 5 8) SettleGrand)))
          ∷ call (step 0 1) 17 0
          ∷ [];
      after = same;
    }
    -- 342: 17, pz is outside the table
    ∷ record {
      start = beside;
      lines =
          damage (task_is 0 (busy 30 130 (Settling (path 16 5 8) SettleGrand)))
          ∷ call (step 0 1) 17 0
          ∷ [];
      after = same;
    }
    -- 343: 17, z is not well formed
    ∷ record {
      start = beside;
      lines =
          call (step 0 1) 0 0
          ∷ damage (field 5 2 1)
          ∷ call (step 0 1) 17 0
          ∷ [];
      after = same;
    }
    -- 344: z is in state 2: the walk starts again
    ∷ record {
      start = beside;
      lines =
          call (step 0 1) 0 0
          ∷ damage (field 5 0 2)
          ∷ call (step 0 1) 0 0
          ∷ damage (field 0 2 1)
          ∷ call (step 0 1) 17 0
          ∷ [];
      after = same;
    }
    -- 345: neither of z's links leads to x: the walk starts again
    ∷ record {
      start = beside;
      lines =
          call (step 0 1) 0 0
          ∷ damage (field 5 5 15)
          ∷ call (step 0 1) 0 0
          ∷ damage (field 5 5 8)
          ∷ call (step 0 6) 0 0
          ∷ [];
      after =
          left (record {
            used = 12;
            root = 20 ∷ 2 ∷ [];
            settled = 21 ∷ [];
            busy = 0 ∷ [];
            fares = 0 ∷ 10 ∷ 110 ∷ 20 ∷ 120 ∷ 30 ∷ 130 ∷ [];
            figures = 0 ∷ 2 ∷ 0 ∷ 1 ∷ 3 ∷ 3 ∷ 4 ∷ 2 ∷ [];
            table =
                rec 1 4294967295 0 255 2 0
                ∷ rec 2 4294967295 0 255 0 0
                ∷ rec 1 4294967295 0 255 11 4
                ∷ rec 2 10 110 0 0 0
                ∷ rec 1 4294967295 0 255 0 0
                ∷ rec 2 20 0 1 6 8
                ∷ rec 1 10 110 0 0 0
                ∷ rec 2 20 120 0 0 0
                ∷ rec 1 30 0 1 9 10
                ∷ rec 1 20 120 0 0 0
                ∷ rec 1 30 130 0 0 0
                ∷ rec 1 20 0 2 6 8
                ∷ [];
          });
    }
    -- 346: the reading of z looks at nothing else
    ∷ record {
      start = beside;
      lines =
          call (step 0 1) 0 0
          ∷ damage (field 2 2 1)
          ∷ damage (field 6 2 100000)
          ∷ damage (field 8 2 1)
          ∷ call (step 0 1) 0 0
          ∷ damage (field 2 2 0)
          ∷ damage (field 6 2 110)
          ∷ damage (field 8 2 0)
          ∷ call (step 0 1) 0 0
          ∷ [];
      after =
          left (record {
            used = 12;
            root = 20 ∷ 2 ∷ [];
            settled = 21 ∷ [];
            busy = 0 ∷ [];
            fares = 0 ∷ 10 ∷ 110 ∷ 20 ∷ 120 ∷ 30 ∷ 130 ∷ [];
            figures = 0 ∷ 2 ∷ 0 ∷ 1 ∷ 3 ∷ 3 ∷ 4 ∷ 2 ∷ [];
            table =
                rec 1 4294967295 0 255 2 0
                ∷ rec 2 4294967295 0 255 0 0
                ∷ rec 1 4294967295 0 255 11 4
                ∷ rec 2 10 110 0 0 0
                ∷ rec 1 4294967295 0 255 0 0
                ∷ rec 2 20 0 1 6 8
                ∷ rec 1 10 110 0 0 0
                ∷ rec 2 20 120 0 0 0
                ∷ rec 1 30 0 1 9 10
                ∷ rec 1 20 120 0 0 0
                ∷ rec 1 30 130 0 0 0
                ∷ rec 1 20 0 2 6 8
                ∷ [];
          });
    }
    -- 347: 17, z is outside the table
    ∷ record {
      start = beside;
      lines =
          damage (task_is 0 (busy 30 130 (Settling (path 2 16 8) (SettleParent (links 16 4)))))
          ∷ call (step 0 1) 17 0
          ∷ [];
      after = same;
    }
    -- 348: 17, pz is not well formed at the commit
    ∷ record {
      start = beside;
      lines =
          call (step 0 2) 0 0
          ∷ damage (field 2 2 1)
          ∷ call (step 0 1) 17 0
          ∷ [];
      after = same;
    }
    -- 349: 17, z is not well formed at the commit
    ∷ record {
      start = beside;
      lines =
          call (step 0 2) 0 0
          ∷ damage (field 5 2 1)
          ∷ call (step 0 1) 17 0
          ∷ [];
      after = same;
    }
    -- 350: 17, s is not well formed
    ∷ record {
      start = beside;
      lines =
          call (step 0 2) 0 0
          ∷ damage (field 6 2 100000)
          ∷ call (step 0 1) 17 0
          ∷ [];
      after = same;
    }
    -- 351: 17, s is not well formed, and the test would fail
    ∷ record {
      start = beside;
      lines =
          call (step 0 2) 0 0
          ∷ damage (field 6 2 100000)
          ∷ damage (field 2 0 2)
          ∷ call (step 0 1) 17 0
          ∷ [];
      after = same;
    }
    -- 352: s in state 2 is no matter: it was not read
    ∷ record {
      start = beside;
      lines =
          call (step 0 2) 0 0
          ∷ damage (field 6 0 2)
          ∷ call (step 0 1) 0 0
          ∷ [];
      after =
          left (record {
            used = 12;
            root = 20 ∷ 2 ∷ [];
            settled = 21 ∷ [];
            busy = 0 ∷ [];
            fares = 17 ∷ [];
            figures = 17 ∷ 0 ∷ 0 ∷ 0 ∷ 0 ∷ 0 ∷ 0 ∷ 0 ∷ [];
            table =
                rec 1 4294967295 0 255 2 0
                ∷ rec 2 4294967295 0 255 0 0
                ∷ rec 1 4294967295 0 255 11 4
                ∷ rec 2 10 110 0 0 0
                ∷ rec 1 4294967295 0 255 0 0
                ∷ rec 2 20 0 1 6 8
                ∷ rec 2 10 110 0 0 0
                ∷ rec 2 20 120 0 0 0
                ∷ rec 1 30 0 1 9 10
                ∷ rec 1 20 120 0 0 0
                ∷ rec 1 30 130 0 0 0
                ∷ rec 1 20 0 2 6 8
                ∷ [];
          });
    }
    -- 353: 17, x is not well formed
    ∷ record {
      start = beside;
      lines =
          call (step 0 2) 0 0
          ∷ damage (field 8 2 1)
          ∷ call (step 0 1) 17 0
          ∷ [];
      after = same;
    }
    -- 354: x in state 2 is no matter to a promote that has not read it
    ∷ record {
      start = beside;
      lines =
          call (step 0 2) 0 0
          ∷ damage (field 8 0 2)
          ∷ call (step 0 1) 0 0
          ∷ [];
      after =
          left (record {
            used = 12;
            root = 20 ∷ 2 ∷ [];
            settled = 21 ∷ [];
            busy = 0 ∷ [];
            fares = 17 ∷ [];
            figures = 17 ∷ 0 ∷ 0 ∷ 0 ∷ 0 ∷ 0 ∷ 0 ∷ 0 ∷ [];
            table =
                rec 1 4294967295 0 255 2 0
                ∷ rec 2 4294967295 0 255 0 0
                ∷ rec 1 4294967295 0 255 11 4
                ∷ rec 2 10 110 0 0 0
                ∷ rec 1 4294967295 0 255 0 0
                ∷ rec 2 20 0 1 6 8
                ∷ rec 1 10 110 0 0 0
                ∷ rec 2 20 120 0 0 0
                ∷ rec 2 30 0 1 9 10
                ∷ rec 1 20 120 0 0 0
                ∷ rec 1 30 130 0 0 0
                ∷ rec 1 20 0 2 6 8
                ∷ [];
          });
    }
    -- 355: the children of x are no matter to a promote
    ∷ record {
      start = beside;
      lines =
          call (step 0 2) 0 0
          ∷ damage (field 9 2 100000)
          ∷ damage (field 10 2 100000)
          ∷ call (step 0 1) 0 0
          ∷ [];
      after =
          left (record {
            used = 12;
            root = 20 ∷ 2 ∷ [];
            settled = 21 ∷ [];
            busy = 0 ∷ [];
            fares = 17 ∷ [];
            figures = 17 ∷ 0 ∷ 0 ∷ 0 ∷ 0 ∷ 0 ∷ 0 ∷ 0 ∷ [];
            table =
                rec 1 4294967295 0 255 2 0
                ∷ rec 2 4294967295 0 255 0 0
                ∷ rec 1 4294967295 0 255 11 4
                ∷ rec 2 10 110 0 0 0
                ∷ rec 1 4294967295 0 255 0 0
                ∷ rec 2 20 0 1 6 8
                ∷ rec 1 10 110 0 0 0
                ∷ rec 2 20 120 0 0 0
                ∷ rec 1 30 0 1 9 10
                ∷ rec 1 20 100000 0 0 0
                ∷ rec 1 30 100000 0 0 0
                ∷ rec 1 20 0 2 6 8
                ∷ [];
          });
    }
    -- 356: 17, s is missing: z's noted link is 0
    ∷ record {
      start = beside;
      lines =
          damage (task_is 0 (busy 30 130 (Settling (path 2 5 8) (SettleChoose (links 5 4) (links 0 8)))))
          ∷ call (step 0 1) 17 0
          ∷ [];
      after = same;
    }
    -- 357: 17, s is outside the table
    ∷ record {
      start = beside;
      lines =
          damage (task_is 0 (busy 30 130 (Settling (path 2 5 8) (SettleChoose (links 5 4) (links 16 8)))))
          ∷ call (step 0 1) 17 0
          ∷ [];
      after = same;
    }
    -- 358: 17, x is missing
    ∷ record {
      start = beside;
      lines =
          damage (task_is 0 (busy 30 130 (Settling (path 2 5 0) (SettleChoose (links 5 4) (links 6 0)))))
          ∷ call (step 0 1) 17 0
          ∷ [];
      after = same;
    }
    -- 359: 17, x is outside the table
    ∷ record {
      start = beside;
      lines =
          damage (task_is 0 (busy 30 130 (Settling (path 2 5 16) (SettleChoose (links 5 4) (links 6 16)))))
          ∷ call (step 0 1) 17 0
          ∷ [];
      after = same;
    }
    -- 360: 17, pz and z are one and the same
    ∷ record {
      start = beside;
      lines =
          damage (task_is 0 (busy 30 130 (Settling (path 5 5 8) (SettleChoose (links 5 4) (links 6 8)))))
          ∷ call (step 0 1) 17 0
          ∷ [];
      after = same;
    }
    -- 361: pz and x are one and the same, but a promote has not read x: the test fails
    ∷ record {
      start = beside;
      lines =
          damage (task_is 0 (busy 30 130 (Settling (path 8 5 8) (SettleChoose (links 5 4) (links 6 8)))))
          ∷ call (step 0 1) 0 0
          ∷ damage (field 0 2 1)
          ∷ call (step 0 1) 17 0
          ∷ [];
      after = same;
    }
    -- 362: z and x are one and the same, but a promote has not read x: it is level with itself, and the promote is made
    ∷ record {
      start = beside;
      lines =
          damage (field 5 5 5)
          ∷ damage (task_is 0 (busy 30 130 (Settling (path 2 5 5) (SettleChoose (links 5 4) (links 6 5)))))
          ∷ call (step 0 1) 0 0
          ∷ [];
      after =
          left (record {
            used = 12;
            root = 20 ∷ 2 ∷ [];
            settled = 21 ∷ [];
            busy = 0 ∷ [];
            fares = 17 ∷ [];
            figures = 17 ∷ 0 ∷ 0 ∷ 0 ∷ 0 ∷ 0 ∷ 0 ∷ 0 ∷ [];
            table =
                rec 1 4294967295 0 255 2 0
                ∷ rec 2 4294967295 0 255 0 0
                ∷ rec 1 4294967295 0 255 11 4
                ∷ rec 2 10 110 0 0 0
                ∷ rec 1 4294967295 0 255 0 0
                ∷ rec 2 20 0 1 6 5
                ∷ rec 1 10 110 0 0 0
                ∷ rec 2 20 120 0 0 0
                ∷ rec 1 30 0 1 9 10
                ∷ rec 1 20 120 0 0 0
                ∷ rec 1 30 130 0 0 0
                ∷ rec 1 20 0 2 6 5
                ∷ [];
          });
    }
    -- 363: 17, pz's noted links do not lead to z
    ∷ record {
      start = beside;
      lines =
          damage (task_is 0 (busy 30 130 (Settling (path 2 5 8) (SettleChoose (links 12 4) (links 6 8)))))
          ∷ call (step 0 1) 17 0
          ∷ [];
      after = same;
    }
    -- 364: they lead to it, but are not the links of now: the walk starts again
    ∷ record {
      start = beside;
      lines =
          damage (task_is 0 (busy 30 130 (Settling (path 2 5 8) (SettleChoose (links 5 12) (links 6 8)))))
          ∷ call (step 0 1) 0 0
          ∷ damage (field 0 2 1)
          ∷ call (step 0 1) 17 0
          ∷ [];
      after = same;
    }
    -- 365: 17, z's noted links do not lead to x; s is then the left one
    ∷ record {
      start = beside;
      lines =
          damage (task_is 0 (busy 30 130 (Settling (path 2 5 8) (SettleChoose (links 5 4) (links 6 9)))))
          ∷ call (step 0 1) 17 0
          ∷ [];
      after = same;
    }
    -- 366: 17, x outranks z, so it is not level
    ∷ record {
      start = beside;
      lines =
          call (step 0 2) 0 0
          ∷ damage (field 8 3 2)
          ∷ call (step 0 1) 17 0
          ∷ [];
      after = same;
    }
    -- 367: 17, x is not level, and the test would fail
    ∷ record {
      start = beside;
      lines =
          call (step 0 2) 0 0
          ∷ damage (field 8 3 2)
          ∷ damage (field 2 0 2)
          ∷ call (step 0 1) 17 0
          ∷ [];
      after = same;
    }
    -- 368: 17, x stands below z, so it is not level: s of rank 1 makes it a promote
    ∷ record {
      start = beside;
      lines =
          call (step 0 2) 0 0
          ∷ damage (field 5 3 2)
          ∷ damage (field 6 2 0)
          ∷ damage (field 6 3 1)
          ∷ damage (field 6 4 12)
          ∷ damage (field 6 5 13)
          ∷ call (step 0 1) 17 0
          ∷ [];
      after = same;
    }
    -- 369: 17, sentinels of equal rank are not level, though the test would fail
    ∷ record {
      start = beside;
      lines =
          call (step 0 2) 0 0
          ∷ damage (field 2 0 2)
          ∷ damage (field 5 1 4294967295)
          ∷ damage (field 5 3 255)
          ∷ damage (field 6 1 4294967295)
          ∷ damage (field 6 3 255)
          ∷ damage (field 6 2 0)
          ∷ damage (field 8 1 4294967295)
          ∷ damage (field 8 3 255)
          ∷ call (step 0 1) 17 0
          ∷ [];
      after = same;
    }
    -- 370: pz is in state 2 at the commit: the walk starts again
    ∷ record {
      start = beside;
      lines =
          call (step 0 2) 0 0
          ∷ damage (field 2 0 2)
          ∷ call (step 0 1) 0 0
          ∷ damage (field 0 2 1)
          ∷ call (step 0 1) 17 0
          ∷ [];
      after = same;
    }
    -- 371: z is in state 2 at the commit: the walk starts again
    ∷ record {
      start = beside;
      lines =
          call (step 0 2) 0 0
          ∷ damage (field 5 0 2)
          ∷ call (step 0 1) 0 0
          ∷ damage (field 0 2 1)
          ∷ call (step 0 1) 17 0
          ∷ [];
      after = same;
    }
    -- 372: a link of pz to elsewhere has changed: the walk starts again
    ∷ record {
      start = beside;
      lines =
          call (step 0 2) 0 0
          ∷ damage (field 2 5 15)
          ∷ call (step 0 1) 0 0
          ∷ damage (field 0 2 1)
          ∷ call (step 0 1) 17 0
          ∷ [];
      after = same;
    }
    -- 373: z's link to s has changed: the walk starts again; s is the noted one
    ∷ record {
      start = beside;
      lines =
          call (step 0 2) 0 0
          ∷ damage (field 5 4 15)
          ∷ call (step 0 1) 0 0
          ∷ damage (field 0 2 1)
          ∷ call (step 0 1) 17 0
          ∷ [];
      after = same;
    }
    -- 374: 17, s outranks z
    ∷ record {
      start = beside;
      lines =
          call (step 0 2) 0 0
          ∷ damage (field 6 2 0)
          ∷ damage (field 6 3 2)
          ∷ damage (field 6 4 12)
          ∷ damage (field 6 5 13)
          ∷ call (step 0 1) 17 0
          ∷ [];
      after = same;
    }
    -- 375: s outranks z, but the test fails: the walk starts again
    ∷ record {
      start = beside;
      lines =
          call (step 0 2) 0 0
          ∷ damage (field 6 2 0)
          ∷ damage (field 6 3 2)
          ∷ damage (field 6 4 12)
          ∷ damage (field 6 5 13)
          ∷ damage (field 2 0 2)
          ∷ call (step 0 1) 0 0
          ∷ damage (field 0 2 1)
          ∷ call (step 0 1) 17 0
          ∷ [];
      after = same;
    }
    -- 376: 17, s outranks z and x is not level: before the test
    ∷ record {
      start = beside;
      lines =
          call (step 0 2) 0 0
          ∷ damage (field 6 2 0)
          ∷ damage (field 6 3 3)
          ∷ damage (field 6 4 12)
          ∷ damage (field 6 5 13)
          ∷ damage (field 8 3 2)
          ∷ damage (field 2 0 2)
          ∷ call (step 0 1) 17 0
          ∷ [];
      after = same;
    }
    -- 377: s level with z: promote case 1
    ∷ record {
      start = beside;
      lines =
          call (step 0 2) 0 0
          ∷ damage (field 6 2 0)
          ∷ damage (field 6 3 1)
          ∷ damage (field 6 4 12)
          ∷ damage (field 6 5 13)
          ∷ call (step 0 1) 0 0
          ∷ [];
      after =
          left (record {
            used = 12;
            root = 20 ∷ 2 ∷ [];
            settled = 11 ∷ [];
            busy = 0 ∷ [];
            fares = 17 ∷ [];
            figures = 17 ∷ 0 ∷ 0 ∷ 0 ∷ 0 ∷ 0 ∷ 0 ∷ 0 ∷ [];
            table =
                rec 1 4294967295 0 255 2 0
                ∷ rec 2 4294967295 0 255 0 0
                ∷ rec 1 4294967295 0 255 11 4
                ∷ rec 2 10 110 0 0 0
                ∷ rec 1 4294967295 0 255 0 0
                ∷ rec 2 20 0 1 6 8
                ∷ rec 1 10 0 1 12 13
                ∷ rec 2 20 120 0 0 0
                ∷ rec 1 30 0 1 9 10
                ∷ rec 1 20 120 0 0 0
                ∷ rec 1 30 130 0 0 0
                ∷ rec 1 20 0 2 6 8
                ∷ [];
          });
    }
    -- 378: 17, s is a sentinel and outranks z
    ∷ record {
      start = beside;
      lines =
          call (step 0 2) 0 0
          ∷ damage (field 6 1 4294967295)
          ∷ damage (field 6 3 255)
          ∷ damage (field 6 2 0)
          ∷ call (step 0 1) 17 0
          ∷ [];
      after = same;
    }
    -- 379: 17, a promote's new rank would be 29
    ∷ record {
      start = beside;
      lines =
          call (step 0 2) 0 0
          ∷ damage (field 5 3 28)
          ∷ damage (field 8 3 28)
          ∷ damage (field 6 2 0)
          ∷ damage (field 6 3 27)
          ∷ damage (field 6 4 12)
          ∷ damage (field 6 5 13)
          ∷ call (step 0 1) 17 0
          ∷ [];
      after = same;
    }
    -- 380: the new rank would be 29, but the test fails: the walk starts again
    ∷ record {
      start = beside;
      lines =
          call (step 0 2) 0 0
          ∷ damage (field 5 3 28)
          ∷ damage (field 8 3 28)
          ∷ damage (field 6 2 0)
          ∷ damage (field 6 3 27)
          ∷ damage (field 6 4 12)
          ∷ damage (field 6 5 13)
          ∷ damage (field 5 0 2)
          ∷ call (step 0 1) 0 0
          ∷ damage (field 0 2 1)
          ∷ call (step 0 1) 17 0
          ∷ [];
      after = same;
    }
    -- 381: the new rank is 28
    ∷ record {
      start = beside;
      lines =
          call (step 0 2) 0 0
          ∷ damage (field 5 3 27)
          ∷ damage (field 8 3 27)
          ∷ damage (field 6 2 0)
          ∷ damage (field 6 3 26)
          ∷ damage (field 6 4 12)
          ∷ damage (field 6 5 13)
          ∷ call (step 0 1) 0 0
          ∷ [];
      after =
          left (record {
            used = 12;
            root = 20 ∷ 28 ∷ [];
            settled = 21 ∷ [];
            busy = 0 ∷ [];
            fares = 17 ∷ [];
            figures = 17 ∷ 0 ∷ 0 ∷ 0 ∷ 0 ∷ 0 ∷ 0 ∷ 0 ∷ [];
            table =
                rec 1 4294967295 0 255 2 0
                ∷ rec 2 4294967295 0 255 0 0
                ∷ rec 1 4294967295 0 255 11 4
                ∷ rec 2 10 110 0 0 0
                ∷ rec 1 4294967295 0 255 0 0
                ∷ rec 2 20 0 27 6 8
                ∷ rec 1 10 0 26 12 13
                ∷ rec 2 20 120 0 0 0
                ∷ rec 1 30 0 27 9 10
                ∷ rec 1 20 120 0 0 0
                ∷ rec 1 30 130 0 0 0
                ∷ rec 1 20 0 28 6 8
                ∷ [];
          });
    }
    -- 382: order: 17 after the test before the 6 of too few slots
    ∷ record {
      start = beside;
      lines =
          call (step 0 2) 0 0
          ∷ damage (field 5 3 28)
          ∷ damage (field 8 3 28)
          ∷ damage (field 6 2 0)
          ∷ damage (field 6 3 28)
          ∷ damage (field 6 4 1)
          ∷ damage (field 6 5 3)
          ∷ damage (length_is 66)
          ∷ call (step 0 1) 17 0
          ∷ [];
      after = same;
    }
    -- 383: with a new rank of 28 it is the 6
    ∷ record {
      start = beside;
      lines =
          call (step 0 2) 0 0
          ∷ damage (field 5 3 27)
          ∷ damage (field 8 3 27)
          ∷ damage (field 6 2 0)
          ∷ damage (field 6 3 27)
          ∷ damage (field 6 4 1)
          ∷ damage (field 6 5 3)
          ∷ damage (length_is 66)
          ∷ call (step 0 1) 6 0
          ∷ [];
      after =
          left (record {
            used = 11;
            root = 20 ∷ 27 ∷ [];
            settled = [];
            busy = [];
            fares = 17 ∷ [];
            figures = 17 ∷ 0 ∷ 0 ∷ 0 ∷ 0 ∷ 0 ∷ 0 ∷ 0 ∷ [];
            table =
                rec 1 4294967295 0 255 2 0
                ∷ rec 2 4294967295 0 255 0 0
                ∷ rec 1 4294967295 0 255 5 4
                ∷ rec 2 10 110 0 0 0
                ∷ rec 1 4294967295 0 255 0 0
                ∷ rec 1 20 0 27 6 8
                ∷ rec 1 10 0 27 1 3
                ∷ rec 2 20 120 0 0 0
                ∷ rec 1 30 0 27 9 10
                ∷ rec 1 20 120 0 0 0
                ∷ rec 1 30 130 0 0 0
                ∷ [];
          });
    }
    -- 384: base: 40 put in after 10, 20, 30; task 0 about to choose; pz, z, s, x, y, w are 2, 11, 6, 15, 9, 12
    ∷ record {
      start = anew 20;
      lines =
          call (begin 0 PutIn 10 110) 0 0
          ∷ call (step 0 4) 3 0
          ∷ call (begin 0 PutIn 20 120) 0 0
          ∷ call (step 0 5) 3 0
          ∷ call (begin 0 PutIn 30 130) 0 0
          ∷ call (step 0 16) 3 0
          ∷ call (begin 0 PutIn 40 140) 0 0
          ∷ call (step 0 19) 0 0
          ∷ [];
      after =
          left (record {
            used = 16;
            root = 20 ∷ 2 ∷ [];
            settled = 21 ∷ 21 ∷ [];
            busy = 0 ∷ [];
            fares = 0 ∷ 10 ∷ 110 ∷ 20 ∷ 120 ∷ 30 ∷ 130 ∷ 40 ∷ 140 ∷ [];
            figures = 0 ∷ 3 ∷ 1 ∷ 1 ∷ 4 ∷ 4 ∷ 4 ∷ 3 ∷ [];
            table =
                rec 1 4294967295 0 255 2 0
                ∷ rec 2 4294967295 0 255 0 0
                ∷ rec 1 4294967295 0 255 11 4
                ∷ rec 2 10 110 0 0 0
                ∷ rec 1 4294967295 0 255 0 0
                ∷ rec 2 20 0 1 6 8
                ∷ rec 1 10 110 0 0 0
                ∷ rec 2 20 120 0 0 0
                ∷ rec 2 30 0 1 9 12
                ∷ rec 1 20 120 0 0 0
                ∷ rec 2 30 130 0 0 0
                ∷ rec 1 20 0 2 6 15
                ∷ rec 1 40 0 1 13 14
                ∷ rec 1 30 130 0 0 0
                ∷ rec 1 40 140 0 0 0
                ∷ rec 1 30 0 2 9 12
                ∷ [];
          });
    }
    -- 385: z minus s is 2: x is read, then rotate case 1 is made
    ∷ record {
      start = onward;
      lines =
          call (step 0 2) 0 0
          ∷ [];
      after =
          left (record {
            used = 18;
            root = 30 ∷ 2 ∷ [];
            settled = 31 ∷ [];
            busy = 0 ∷ [];
            fares = 0 ∷ 10 ∷ 110 ∷ 20 ∷ 120 ∷ 30 ∷ 130 ∷ 40 ∷ 140 ∷ [];
            figures = 0 ∷ 2 ∷ 0 ∷ 1 ∷ 4 ∷ 4 ∷ 2 ∷ 3 ∷ [];
            table =
                rec 1 4294967295 0 255 2 0
                ∷ rec 2 4294967295 0 255 0 0
                ∷ rec 1 4294967295 0 255 16 4
                ∷ rec 2 10 110 0 0 0
                ∷ rec 1 4294967295 0 255 0 0
                ∷ rec 2 20 0 1 6 8
                ∷ rec 1 10 110 0 0 0
                ∷ rec 2 20 120 0 0 0
                ∷ rec 2 30 0 1 9 12
                ∷ rec 1 20 120 0 0 0
                ∷ rec 2 30 130 0 0 0
                ∷ rec 2 20 0 2 6 15
                ∷ rec 1 40 0 1 13 14
                ∷ rec 1 30 130 0 0 0
                ∷ rec 1 40 140 0 0 0
                ∷ rec 2 30 0 2 9 12
                ∷ rec 1 30 0 2 17 12
                ∷ rec 1 20 0 1 6 9
                ∷ [];
          });
    }
    -- 386: 17, z is not well formed at the reading of x
    ∷ record {
      start = beside;
      lines =
          damage (field 11 2 1)
          ∷ call (step 0 1) 17 0
          ∷ [];
      after = same;
    }
    -- 387: 17, s is not well formed at the reading of x
    ∷ record {
      start = beside;
      lines =
          damage (field 6 2 100000)
          ∷ call (step 0 1) 17 0
          ∷ [];
      after = same;
    }
    -- 388: 17, x is not well formed at its reading
    ∷ record {
      start = beside;
      lines =
          damage (field 15 2 1)
          ∷ call (step 0 1) 17 0
          ∷ [];
      after = same;
    }
    -- 389: x is in state 2 at its reading: the walk starts again
    ∷ record {
      start = beside;
      lines =
          damage (field 15 0 2)
          ∷ call (step 0 1) 0 0
          ∷ damage (field 0 2 1)
          ∷ call (step 0 1) 17 0
          ∷ [];
      after = same;
    }
    -- 390: s in state 2 is no matter at the reading of x
    ∷ record {
      start = beside;
      lines =
          damage (field 6 0 2)
          ∷ call (step 0 2) 0 0
          ∷ [];
      after =
          left (record {
            used = 18;
            root = 30 ∷ 2 ∷ [];
            settled = 31 ∷ [];
            busy = 0 ∷ [];
            fares = 17 ∷ [];
            figures = 17 ∷ 0 ∷ 0 ∷ 0 ∷ 0 ∷ 0 ∷ 0 ∷ 0 ∷ [];
            table =
                rec 1 4294967295 0 255 2 0
                ∷ rec 2 4294967295 0 255 0 0
                ∷ rec 1 4294967295 0 255 16 4
                ∷ rec 2 10 110 0 0 0
                ∷ rec 1 4294967295 0 255 0 0
                ∷ rec 2 20 0 1 6 8
                ∷ rec 2 10 110 0 0 0
                ∷ rec 2 20 120 0 0 0
                ∷ rec 2 30 0 1 9 12
                ∷ rec 1 20 120 0 0 0
                ∷ rec 2 30 130 0 0 0
                ∷ rec 2 20 0 2 6 15
                ∷ rec 1 40 0 1 13 14
                ∷ rec 1 30 130 0 0 0
                ∷ rec 1 40 140 0 0 0
                ∷ rec 2 30 0 2 9 12
                ∷ rec 1 30 0 2 17 12
                ∷ rec 1 20 0 1 6 9
                ∷ [];
          });
    }
    -- 391: pz, y and w are not looked at at the reading of x
    ∷ record {
      start = beside;
      lines =
          damage (field 2 2 1)
          ∷ damage (field 9 2 100000)
          ∷ damage (field 12 2 1)
          ∷ call (step 0 1) 0 0
          ∷ damage (field 2 2 0)
          ∷ damage (field 9 2 120)
          ∷ damage (field 12 2 0)
          ∷ call (step 0 1) 0 0
          ∷ [];
      after =
          left (record {
            used = 18;
            root = 30 ∷ 2 ∷ [];
            settled = 31 ∷ [];
            busy = 0 ∷ [];
            fares = 0 ∷ 10 ∷ 110 ∷ 20 ∷ 120 ∷ 30 ∷ 130 ∷ 40 ∷ 140 ∷ [];
            figures = 0 ∷ 2 ∷ 0 ∷ 1 ∷ 4 ∷ 4 ∷ 2 ∷ 3 ∷ [];
            table =
                rec 1 4294967295 0 255 2 0
                ∷ rec 2 4294967295 0 255 0 0
                ∷ rec 1 4294967295 0 255 16 4
                ∷ rec 2 10 110 0 0 0
                ∷ rec 1 4294967295 0 255 0 0
                ∷ rec 2 20 0 1 6 8
                ∷ rec 1 10 110 0 0 0
                ∷ rec 2 20 120 0 0 0
                ∷ rec 2 30 0 1 9 12
                ∷ rec 1 20 120 0 0 0
                ∷ rec 2 30 130 0 0 0
                ∷ rec 2 20 0 2 6 15
                ∷ rec 1 40 0 1 13 14
                ∷ rec 1 30 130 0 0 0
                ∷ rec 1 40 140 0 0 0
                ∷ rec 2 30 0 2 9 12
                ∷ rec 1 30 0 2 17 12
                ∷ rec 1 20 0 1 6 9
                ∷ [];
          });
    }
    -- 392: 17, x that is not level is still read, and the 17 comes at the commit
    ∷ record {
      start = beside;
      lines =
          damage (field 15 3 3)
          ∷ call (step 0 1) 0 0
          ∷ call (step 0 1) 17 0
          ∷ [];
      after = same;
    }
    -- 393: 17, z's noted links do not lead to x: s is the left one, x is read, and the commit says so
    ∷ record {
      start = beside;
      lines =
          damage (task_is 0 (busy 40 140 (Settling (path 2 11 15) (SettleChoose (links 11 4) (links 6 9)))))
          ∷ call (step 0 1) 0 0
          ∷ call (step 0 1) 17 0
          ∷ [];
      after = same;
    }
    -- 394: 17, s is missing at the reading of x
    ∷ record {
      start = beside;
      lines =
          damage (task_is 0 (busy 40 140 (Settling (path 2 11 15) (SettleChoose (links 11 4) (links 0 15)))))
          ∷ call (step 0 1) 17 0
          ∷ [];
      after = same;
    }
    -- 395: 17, x is missing at its reading
    ∷ record {
      start = beside;
      lines =
          damage (task_is 0 (busy 40 140 (Settling (path 2 11 0) (SettleChoose (links 11 4) (links 6 0)))))
          ∷ call (step 0 1) 17 0
          ∷ [];
      after = same;
    }
    -- 396: 17, pz is not well formed at the commit of a rotation
    ∷ record {
      start = beside;
      lines =
          call (step 0 1) 0 0
          ∷ damage (field 2 2 1)
          ∷ call (step 0 1) 17 0
          ∷ [];
      after = same;
    }
    -- 397: 17, z is not well formed at the commit of a rotation
    ∷ record {
      start = beside;
      lines =
          call (step 0 1) 0 0
          ∷ damage (field 11 2 1)
          ∷ call (step 0 1) 17 0
          ∷ [];
      after = same;
    }
    -- 398: 17, s is not well formed at the commit of a rotation
    ∷ record {
      start = beside;
      lines =
          call (step 0 1) 0 0
          ∷ damage (field 6 2 100000)
          ∷ call (step 0 1) 17 0
          ∷ [];
      after = same;
    }
    -- 399: 17, x is not well formed at the commit of a rotation
    ∷ record {
      start = beside;
      lines =
          call (step 0 1) 0 0
          ∷ damage (field 15 2 1)
          ∷ call (step 0 1) 17 0
          ∷ [];
      after = same;
    }
    -- 400: 17, y is not well formed at the commit of a rotation
    ∷ record {
      start = beside;
      lines =
          call (step 0 1) 0 0
          ∷ damage (field 9 2 100000)
          ∷ call (step 0 1) 17 0
          ∷ [];
      after = same;
    }
    -- 401: 17, w is not well formed at the commit of a rotation
    ∷ record {
      start = beside;
      lines =
          call (step 0 1) 0 0
          ∷ damage (field 12 2 1)
          ∷ call (step 0 1) 17 0
          ∷ [];
      after = same;
    }
    -- 402: 17, w is not well formed, and the test would fail
    ∷ record {
      start = beside;
      lines =
          call (step 0 1) 0 0
          ∷ damage (field 12 2 1)
          ∷ damage (field 2 0 2)
          ∷ call (step 0 1) 17 0
          ∷ [];
      after = same;
    }
    -- 403: s, y and w in state 2 are no matter: they were not read
    ∷ record {
      start = beside;
      lines =
          call (step 0 1) 0 0
          ∷ damage (field 6 0 2)
          ∷ damage (field 9 0 2)
          ∷ damage (field 12 0 2)
          ∷ call (step 0 1) 0 0
          ∷ [];
      after =
          left (record {
            used = 18;
            root = 30 ∷ 2 ∷ [];
            settled = 31 ∷ [];
            busy = 0 ∷ [];
            fares = 17 ∷ [];
            figures = 17 ∷ 0 ∷ 0 ∷ 0 ∷ 0 ∷ 0 ∷ 0 ∷ 0 ∷ [];
            table =
                rec 1 4294967295 0 255 2 0
                ∷ rec 2 4294967295 0 255 0 0
                ∷ rec 1 4294967295 0 255 16 4
                ∷ rec 2 10 110 0 0 0
                ∷ rec 1 4294967295 0 255 0 0
                ∷ rec 2 20 0 1 6 8
                ∷ rec 2 10 110 0 0 0
                ∷ rec 2 20 120 0 0 0
                ∷ rec 2 30 0 1 9 12
                ∷ rec 2 20 120 0 0 0
                ∷ rec 2 30 130 0 0 0
                ∷ rec 2 20 0 2 6 15
                ∷ rec 2 40 0 1 13 14
                ∷ rec 1 30 130 0 0 0
                ∷ rec 1 40 140 0 0 0
                ∷ rec 2 30 0 2 9 12
                ∷ rec 1 30 0 2 17 12
                ∷ rec 1 20 0 1 6 9
                ∷ [];
          });
    }
    -- 404: 17, y is missing: x's noted link is 0
    ∷ record {
      start = beside;
      lines =
          damage (task_is 0 (busy 40 140 (Settling (path 2 11 15) (SettleRotate (links 11 4) (links 6 15) (links 0 12)))))
          ∷ call (step 0 1) 17 0
          ∷ [];
      after = same;
    }
    -- 405: 17, w is missing: x's noted link is 0
    ∷ record {
      start = beside;
      lines =
          damage (task_is 0 (busy 40 140 (Settling (path 2 11 15) (SettleRotate (links 11 4) (links 6 15) (links 9 0)))))
          ∷ call (step 0 1) 17 0
          ∷ [];
      after = same;
    }
    -- 406: 17, y is outside the table
    ∷ record {
      start = beside;
      lines =
          damage (task_is 0 (busy 40 140 (Settling (path 2 11 15) (SettleRotate (links 11 4) (links 6 15) (links 20 12)))))
          ∷ call (step 0 1) 17 0
          ∷ [];
      after = same;
    }
    -- 407: 17, pz and z are one and the same
    ∷ record {
      start = beside;
      lines =
          damage (task_is 0 (busy 40 140 (Settling (path 11 11 15) (SettleRotate (links 11 4) (links 6 15) (links 9 12)))))
          ∷ call (step 0 1) 17 0
          ∷ [];
      after = same;
    }
    -- 408: 17, pz and x are one and the same, once x was read
    ∷ record {
      start = beside;
      lines =
          damage (task_is 0 (busy 40 140 (Settling (path 15 11 15) (SettleRotate (links 11 4) (links 6 15) (links 9 12)))))
          ∷ call (step 0 1) 17 0
          ∷ [];
      after = same;
    }
    -- 409: 17, z and x are one and the same, once x was read
    ∷ record {
      start = beside;
      lines =
          damage (task_is 0 (busy 40 140 (Settling (path 2 11 11) (SettleRotate (links 11 4) (links 6 11) (links 9 12)))))
          ∷ call (step 0 1) 17 0
          ∷ [];
      after = same;
    }
    -- 410: 17, pz's noted links do not lead to z
    ∷ record {
      start = beside;
      lines =
          damage (task_is 0 (busy 40 140 (Settling (path 2 11 15) (SettleRotate (links 12 4) (links 6 15) (links 9 12)))))
          ∷ call (step 0 1) 17 0
          ∷ [];
      after = same;
    }
    -- 411: 17, z's noted links do not lead to x
    ∷ record {
      start = beside;
      lines =
          damage (task_is 0 (busy 40 140 (Settling (path 2 11 15) (SettleRotate (links 11 4) (links 6 13) (links 9 12)))))
          ∷ call (step 0 1) 17 0
          ∷ [];
      after = same;
    }
    -- 412: 17, x outranks z at the commit of a rotation
    ∷ record {
      start = beside;
      lines =
          call (step 0 1) 0 0
          ∷ damage (field 15 3 3)
          ∷ call (step 0 1) 17 0
          ∷ [];
      after = same;
    }
    -- 413: 17, x stands below z at the commit of a rotation, and the test would fail
    ∷ record {
      start = beside;
      lines =
          call (step 0 1) 0 0
          ∷ damage (field 15 3 1)
          ∷ damage (field 2 0 2)
          ∷ call (step 0 1) 17 0
          ∷ [];
      after = same;
    }
    -- 414: pz is in state 2 at the commit of a rotation: the walk starts again
    ∷ record {
      start = beside;
      lines =
          call (step 0 1) 0 0
          ∷ damage (field 2 0 2)
          ∷ call (step 0 1) 0 0
          ∷ damage (field 0 2 1)
          ∷ call (step 0 1) 17 0
          ∷ [];
      after = same;
    }
    -- 415: z is in state 2 at the commit of a rotation: the walk starts again
    ∷ record {
      start = beside;
      lines =
          call (step 0 1) 0 0
          ∷ damage (field 11 0 2)
          ∷ call (step 0 1) 0 0
          ∷ damage (field 0 2 1)
          ∷ call (step 0 1) 17 0
          ∷ [];
      after = same;
    }
    -- 416: x is in state 2 at the commit of a rotation: the walk starts again
    ∷ record {
      start = beside;
      lines =
          call (step 0 1) 0 0
          ∷ damage (field 15 0 2)
          ∷ call (step 0 1) 0 0
          ∷ damage (field 0 2 1)
          ∷ call (step 0 1) 17 0
          ∷ [];
      after = same;
    }
    -- 417: a link of x has changed at the commit of a rotation: the walk starts again
    ∷ record {
      start = beside;
      lines =
          call (step 0 1) 0 0
          ∷ damage (field 15 5 16)
          ∷ call (step 0 1) 0 0
          ∷ damage (field 0 2 1)
          ∷ call (step 0 1) 17 0
          ∷ [];
      after = same;
    }
    -- 418: y and w by the noted links: the links of now change them, so the walk starts again
    ∷ record {
      start = beside;
      lines =
          call (step 0 1) 0 0
          ∷ damage (field 15 4 12)
          ∷ damage (field 15 5 9)
          ∷ call (step 0 1) 0 0
          ∷ damage (field 0 2 1)
          ∷ call (step 0 1) 17 0
          ∷ [];
      after = same;
    }
    -- 419: 17, w outranks x where x minus y is 2
    ∷ record {
      start = beside;
      lines =
          call (step 0 1) 0 0
          ∷ damage (field 12 3 3)
          ∷ call (step 0 1) 17 0
          ∷ [];
      after = same;
    }
    -- 420: w outranks x, but the test fails: the walk starts again
    ∷ record {
      start = beside;
      lines =
          call (step 0 1) 0 0
          ∷ damage (field 12 3 3)
          ∷ damage (field 2 0 2)
          ∷ call (step 0 1) 0 0
          ∷ damage (field 0 2 1)
          ∷ call (step 0 1) 17 0
          ∷ [];
      after = same;
    }
    -- 421: w level with x where x minus y is 2: rotate case 1
    ∷ record {
      start = beside;
      lines =
          call (step 0 1) 0 0
          ∷ damage (field 12 3 2)
          ∷ call (step 0 1) 0 0
          ∷ [];
      after =
          left (record {
            used = 18;
            root = 30 ∷ 2 ∷ [];
            settled = 31 ∷ [];
            busy = 0 ∷ [];
            fares = 0 ∷ 10 ∷ 110 ∷ 20 ∷ 120 ∷ 30 ∷ 130 ∷ 40 ∷ 140 ∷ [];
            figures = 0 ∷ 2 ∷ 1 ∷ 1 ∷ 4 ∷ 4 ∷ 2 ∷ 3 ∷ [];
            table =
                rec 1 4294967295 0 255 2 0
                ∷ rec 2 4294967295 0 255 0 0
                ∷ rec 1 4294967295 0 255 16 4
                ∷ rec 2 10 110 0 0 0
                ∷ rec 1 4294967295 0 255 0 0
                ∷ rec 2 20 0 1 6 8
                ∷ rec 1 10 110 0 0 0
                ∷ rec 2 20 120 0 0 0
                ∷ rec 2 30 0 1 9 12
                ∷ rec 1 20 120 0 0 0
                ∷ rec 2 30 130 0 0 0
                ∷ rec 2 20 0 2 6 15
                ∷ rec 1 40 0 2 13 14
                ∷ rec 1 30 130 0 0 0
                ∷ rec 1 40 140 0 0 0
                ∷ rec 2 30 0 2 9 12
                ∷ rec 1 30 0 2 17 12
                ∷ rec 1 20 0 1 6 9
                ∷ [];
          });
    }
    -- 422: 17, s outranks z once x was read
    ∷ record {
      start = beside;
      lines =
          call (step 0 1) 0 0
          ∷ damage (field 6 2 0)
          ∷ damage (field 6 3 3)
          ∷ damage (field 6 4 16)
          ∷ damage (field 6 5 17)
          ∷ call (step 0 1) 17 0
          ∷ [];
      after = same;
    }
    -- 423: s outranks z once x was read, but x was taken off: the walk starts again
    ∷ record {
      start = beside;
      lines =
          call (step 0 1) 0 0
          ∷ damage (field 6 2 0)
          ∷ damage (field 6 3 3)
          ∷ damage (field 6 4 16)
          ∷ damage (field 6 5 17)
          ∷ damage (field 15 0 2)
          ∷ call (step 0 1) 0 0
          ∷ damage (field 0 2 1)
          ∷ call (step 0 1) 17 0
          ∷ [];
      after = same;
    }
    -- 424: s outranks z: y and w are not looked at, and the walk starts again
    ∷ record {
      start = beside;
      lines =
          call (step 0 1) 0 0
          ∷ damage (field 6 2 0)
          ∷ damage (field 6 3 3)
          ∷ damage (field 6 4 16)
          ∷ damage (field 6 5 17)
          ∷ damage (field 9 2 100000)
          ∷ damage (field 12 2 1)
          ∷ damage (field 2 0 2)
          ∷ call (step 0 1) 0 0
          ∷ damage (field 0 2 1)
          ∷ call (step 0 1) 17 0
          ∷ [];
      after = same;
    }
    -- 425: rotate case 1 at rank 28: no rank grows
    ∷ record {
      start = beside;
      lines =
          call (step 0 1) 0 0
          ∷ damage (field 11 3 28)
          ∷ damage (field 15 3 28)
          ∷ call (step 0 1) 0 0
          ∷ [];
      after =
          left (record {
            used = 18;
            root = 30 ∷ 28 ∷ [];
            settled = 31 ∷ [];
            busy = 0 ∷ [];
            fares = 0 ∷ 10 ∷ 110 ∷ 20 ∷ 120 ∷ 30 ∷ 130 ∷ 40 ∷ 140 ∷ [];
            figures = 0 ∷ 2 ∷ 0 ∷ 1 ∷ 4 ∷ 4 ∷ 2 ∷ 3 ∷ [];
            table =
                rec 1 4294967295 0 255 2 0
                ∷ rec 2 4294967295 0 255 0 0
                ∷ rec 1 4294967295 0 255 16 4
                ∷ rec 2 10 110 0 0 0
                ∷ rec 1 4294967295 0 255 0 0
                ∷ rec 2 20 0 1 6 8
                ∷ rec 1 10 110 0 0 0
                ∷ rec 2 20 120 0 0 0
                ∷ rec 2 30 0 1 9 12
                ∷ rec 1 20 120 0 0 0
                ∷ rec 2 30 130 0 0 0
                ∷ rec 2 20 0 28 6 15
                ∷ rec 1 40 0 1 13 14
                ∷ rec 1 30 130 0 0 0
                ∷ rec 1 40 140 0 0 0
                ∷ rec 2 30 0 28 9 12
                ∷ rec 1 30 0 28 17 12
                ∷ rec 1 20 0 27 6 9
                ∷ [];
          });
    }
    -- 426: the ranks of now say promote after x was read: a promote case 2
    ∷ record {
      start = beside;
      lines =
          call (step 0 1) 0 0
          ∷ damage (field 6 2 0)
          ∷ damage (field 6 3 1)
          ∷ damage (field 6 4 16)
          ∷ damage (field 6 5 17)
          ∷ call (step 0 1) 0 0
          ∷ [];
      after =
          left (record {
            used = 17;
            root = 20 ∷ 3 ∷ [];
            settled = 21 ∷ [];
            busy = 0 ∷ [];
            fares = 17 ∷ [];
            figures = 17 ∷ 0 ∷ 0 ∷ 0 ∷ 0 ∷ 0 ∷ 0 ∷ 0 ∷ [];
            table =
                rec 1 4294967295 0 255 2 0
                ∷ rec 2 4294967295 0 255 0 0
                ∷ rec 1 4294967295 0 255 16 4
                ∷ rec 2 10 110 0 0 0
                ∷ rec 1 4294967295 0 255 0 0
                ∷ rec 2 20 0 1 6 8
                ∷ rec 1 10 0 1 16 17
                ∷ rec 2 20 120 0 0 0
                ∷ rec 2 30 0 1 9 12
                ∷ rec 1 20 120 0 0 0
                ∷ rec 2 30 130 0 0 0
                ∷ rec 2 20 0 2 6 15
                ∷ rec 1 40 0 1 13 14
                ∷ rec 1 30 130 0 0 0
                ∷ rec 1 40 140 0 0 0
                ∷ rec 1 30 0 2 9 12
                ∷ rec 1 20 0 3 6 15
                ∷ [];
          });
    }
    -- 427: that promote does not look at y and w
    ∷ record {
      start = beside;
      lines =
          call (step 0 1) 0 0
          ∷ damage (field 6 2 0)
          ∷ damage (field 6 3 1)
          ∷ damage (field 6 4 16)
          ∷ damage (field 6 5 17)
          ∷ damage (field 9 2 100000)
          ∷ damage (field 12 2 1)
          ∷ call (step 0 1) 0 0
          ∷ [];
      after =
          left (record {
            used = 17;
            root = 20 ∷ 3 ∷ [];
            settled = 21 ∷ [];
            busy = 0 ∷ [];
            fares = 17 ∷ [];
            figures = 17 ∷ 0 ∷ 0 ∷ 0 ∷ 0 ∷ 0 ∷ 0 ∷ 0 ∷ [];
            table =
                rec 1 4294967295 0 255 2 0
                ∷ rec 2 4294967295 0 255 0 0
                ∷ rec 1 4294967295 0 255 16 4
                ∷ rec 2 10 110 0 0 0
                ∷ rec 1 4294967295 0 255 0 0
                ∷ rec 2 20 0 1 6 8
                ∷ rec 1 10 0 1 16 17
                ∷ rec 2 20 120 0 0 0
                ∷ rec 2 30 0 1 9 12
                ∷ rec 1 20 100000 0 0 0
                ∷ rec 2 30 130 0 0 0
                ∷ rec 2 20 0 2 6 15
                ∷ rec 1 40 1 1 13 14
                ∷ rec 1 30 130 0 0 0
                ∷ rec 1 40 140 0 0 0
                ∷ rec 1 30 0 2 9 12
                ∷ rec 1 20 0 3 6 15
                ∷ [];
          });
    }
    -- 428: that promote tests x, which was read: the walk starts again
    ∷ record {
      start = beside;
      lines =
          call (step 0 1) 0 0
          ∷ damage (field 6 2 0)
          ∷ damage (field 6 3 1)
          ∷ damage (field 6 4 16)
          ∷ damage (field 6 5 17)
          ∷ damage (field 15 0 2)
          ∷ call (step 0 1) 0 0
          ∷ damage (field 0 2 1)
          ∷ call (step 0 1) 17 0
          ∷ [];
      after = same;
    }
    -- 429: 17, that promote with pz and x one and the same
    ∷ record {
      start = beside;
      lines =
          damage (task_is 0 (busy 40 140 (Settling (path 15 11 15) (SettleRotate (links 11 4) (links 6 15) (links 9 12)))))
          ∷ damage (field 6 2 0)
          ∷ damage (field 6 3 1)
          ∷ damage (field 6 4 16)
          ∷ damage (field 6 5 17)
          ∷ call (step 0 1) 17 0
          ∷ [];
      after = same;
    }
    -- 430: base: 25 put in after 10, 20, 30; x was read; pz, z, s, x, y, w are 2, 11, 6, 15, 12, 10
    ∷ record {
      start = anew 20;
      lines =
          call (begin 0 PutIn 10 110) 0 0
          ∷ call (step 0 4) 3 0
          ∷ call (begin 0 PutIn 20 120) 0 0
          ∷ call (step 0 5) 3 0
          ∷ call (begin 0 PutIn 30 130) 0 0
          ∷ call (step 0 16) 3 0
          ∷ call (begin 0 PutIn 25 125) 0 0
          ∷ call (step 0 20) 0 0
          ∷ [];
      after =
          left (record {
            used = 16;
            root = 20 ∷ 2 ∷ [];
            settled = 21 ∷ 20 ∷ [];
            busy = 0 ∷ [];
            fares = 0 ∷ 10 ∷ 110 ∷ 20 ∷ 120 ∷ 25 ∷ 125 ∷ 30 ∷ 130 ∷ [];
            figures = 0 ∷ 3 ∷ 1 ∷ 1 ∷ 4 ∷ 4 ∷ 4 ∷ 3 ∷ [];
            table =
                rec 1 4294967295 0 255 2 0
                ∷ rec 2 4294967295 0 255 0 0
                ∷ rec 1 4294967295 0 255 11 4
                ∷ rec 2 10 110 0 0 0
                ∷ rec 1 4294967295 0 255 0 0
                ∷ rec 2 20 0 1 6 8
                ∷ rec 1 10 110 0 0 0
                ∷ rec 2 20 120 0 0 0
                ∷ rec 2 30 0 1 12 10
                ∷ rec 2 20 120 0 0 0
                ∷ rec 1 30 130 0 0 0
                ∷ rec 1 20 0 2 6 15
                ∷ rec 1 25 0 1 13 14
                ∷ rec 1 20 120 0 0 0
                ∷ rec 1 25 125 0 0 0
                ∷ rec 1 30 0 2 12 10
                ∷ [];
          });
    }
    -- 431: x minus y is 1, x minus w is 2: y is read, then the double rotation is made
    ∷ record {
      start = onward;
      lines =
          call (step 0 2) 0 0
          ∷ [];
      after =
          left (record {
            used = 19;
            root = 25 ∷ 2 ∷ [];
            settled = 51 ∷ [];
            busy = 0 ∷ [];
            fares = 0 ∷ 10 ∷ 110 ∷ 20 ∷ 120 ∷ 25 ∷ 125 ∷ 30 ∷ 130 ∷ [];
            figures = 0 ∷ 2 ∷ 0 ∷ 1 ∷ 4 ∷ 4 ∷ 1 ∷ 3 ∷ [];
            table =
                rec 1 4294967295 0 255 2 0
                ∷ rec 2 4294967295 0 255 0 0
                ∷ rec 1 4294967295 0 255 16 4
                ∷ rec 2 10 110 0 0 0
                ∷ rec 1 4294967295 0 255 0 0
                ∷ rec 2 20 0 1 6 8
                ∷ rec 1 10 110 0 0 0
                ∷ rec 2 20 120 0 0 0
                ∷ rec 2 30 0 1 12 10
                ∷ rec 2 20 120 0 0 0
                ∷ rec 1 30 130 0 0 0
                ∷ rec 2 20 0 2 6 15
                ∷ rec 2 25 0 1 13 14
                ∷ rec 1 20 120 0 0 0
                ∷ rec 1 25 125 0 0 0
                ∷ rec 2 30 0 2 12 10
                ∷ rec 1 25 0 2 17 18
                ∷ rec 1 20 0 1 6 13
                ∷ rec 1 30 0 1 14 10
                ∷ [];
          });
    }
    -- 432: x minus w is 1: rotate case 2
    ∷ record {
      start = beside;
      lines =
          damage (field 10 2 0)
          ∷ damage (field 10 3 1)
          ∷ damage (field 10 4 16)
          ∷ damage (field 10 5 17)
          ∷ call (step 0 1) 0 0
          ∷ [];
      after =
          left (record {
            used = 18;
            root = 30 ∷ 3 ∷ [];
            settled = 41 ∷ [];
            busy = 0 ∷ [];
            fares = 17 ∷ [];
            figures = 17 ∷ 0 ∷ 0 ∷ 0 ∷ 0 ∷ 0 ∷ 0 ∷ 0 ∷ [];
            table =
                rec 1 4294967295 0 255 2 0
                ∷ rec 2 4294967295 0 255 0 0
                ∷ rec 1 4294967295 0 255 16 4
                ∷ rec 2 10 110 0 0 0
                ∷ rec 1 4294967295 0 255 0 0
                ∷ rec 2 20 0 1 6 8
                ∷ rec 1 10 110 0 0 0
                ∷ rec 2 20 120 0 0 0
                ∷ rec 2 30 0 1 12 10
                ∷ rec 2 20 120 0 0 0
                ∷ rec 1 30 0 1 16 17
                ∷ rec 2 20 0 2 6 15
                ∷ rec 1 25 0 1 13 14
                ∷ rec 1 20 120 0 0 0
                ∷ rec 1 25 125 0 0 0
                ∷ rec 2 30 0 2 12 10
                ∷ rec 1 30 0 3 17 10
                ∷ rec 1 20 0 2 6 12
                ∷ [];
          });
    }
    -- 433: 17, x minus y is 1 and x minus w is 0: no row fits
    ∷ record {
      start = beside;
      lines =
          damage (field 10 2 0)
          ∷ damage (field 10 3 2)
          ∷ damage (field 10 4 16)
          ∷ damage (field 10 5 17)
          ∷ call (step 0 1) 17 0
          ∷ [];
      after = same;
    }
    -- 434: no row fits, but the test fails: the walk starts again
    ∷ record {
      start = beside;
      lines =
          damage (field 10 2 0)
          ∷ damage (field 10 3 2)
          ∷ damage (field 10 4 16)
          ∷ damage (field 10 5 17)
          ∷ damage (field 2 0 2)
          ∷ call (step 0 1) 0 0
          ∷ damage (field 0 2 1)
          ∷ call (step 0 1) 17 0
          ∷ [];
      after = same;
    }
    -- 435: 17, x minus y is 1 and w outranks x
    ∷ record {
      start = beside;
      lines =
          damage (field 10 2 0)
          ∷ damage (field 10 3 3)
          ∷ damage (field 10 4 16)
          ∷ damage (field 10 5 17)
          ∷ call (step 0 1) 17 0
          ∷ [];
      after = same;
    }
    -- 436: 17, x minus y is 0: no row fits
    ∷ record {
      start = beside;
      lines =
          damage (field 12 3 2)
          ∷ call (step 0 1) 17 0
          ∷ [];
      after = same;
    }
    -- 437: x minus y is 0, but the test fails: the walk starts again
    ∷ record {
      start = beside;
      lines =
          damage (field 12 3 2)
          ∷ damage (field 15 0 2)
          ∷ call (step 0 1) 0 0
          ∷ damage (field 0 2 1)
          ∷ call (step 0 1) 17 0
          ∷ [];
      after = same;
    }
    -- 438: 17, x minus y is 0 and x is not level: before the test
    ∷ record {
      start = beside;
      lines =
          damage (field 12 3 3)
          ∷ damage (field 15 3 3)
          ∷ damage (field 2 0 2)
          ∷ call (step 0 1) 17 0
          ∷ [];
      after = same;
    }
    -- 439: 17, y outranks x
    ∷ record {
      start = beside;
      lines =
          damage (field 12 3 3)
          ∷ call (step 0 1) 17 0
          ∷ [];
      after = same;
    }
    -- 440: y outranks x, but the test fails: the walk starts again
    ∷ record {
      start = beside;
      lines =
          damage (field 12 3 3)
          ∷ damage (field 11 0 2)
          ∷ call (step 0 1) 0 0
          ∷ damage (field 0 2 1)
          ∷ call (step 0 1) 17 0
          ∷ [];
      after = same;
    }
    -- 441: 17, rotate case 2 with a new rank of 29
    ∷ record {
      start = beside;
      lines =
          damage (field 11 3 28)
          ∷ damage (field 15 3 28)
          ∷ damage (field 12 3 27)
          ∷ damage (field 10 2 0)
          ∷ damage (field 10 3 27)
          ∷ damage (field 10 4 16)
          ∷ damage (field 10 5 17)
          ∷ call (step 0 1) 17 0
          ∷ [];
      after = same;
    }
    -- 442: a new rank of 29, but the test fails: the walk starts again
    ∷ record {
      start = beside;
      lines =
          damage (field 11 3 28)
          ∷ damage (field 15 3 28)
          ∷ damage (field 12 3 27)
          ∷ damage (field 10 2 0)
          ∷ damage (field 10 3 27)
          ∷ damage (field 10 4 16)
          ∷ damage (field 10 5 17)
          ∷ damage (field 2 0 2)
          ∷ call (step 0 1) 0 0
          ∷ damage (field 0 2 1)
          ∷ call (step 0 1) 17 0
          ∷ [];
      after = same;
    }
    -- 443: rotate case 2 with a new rank of 28
    ∷ record {
      start = beside;
      lines =
          damage (field 11 3 27)
          ∷ damage (field 15 3 27)
          ∷ damage (field 12 3 26)
          ∷ damage (field 10 2 0)
          ∷ damage (field 10 3 26)
          ∷ damage (field 10 4 16)
          ∷ damage (field 10 5 17)
          ∷ call (step 0 1) 0 0
          ∷ [];
      after =
          left (record {
            used = 18;
            root = 30 ∷ 28 ∷ [];
            settled = 41 ∷ [];
            busy = 0 ∷ [];
            fares = 17 ∷ [];
            figures = 17 ∷ 0 ∷ 0 ∷ 0 ∷ 0 ∷ 0 ∷ 0 ∷ 0 ∷ [];
            table =
                rec 1 4294967295 0 255 2 0
                ∷ rec 2 4294967295 0 255 0 0
                ∷ rec 1 4294967295 0 255 16 4
                ∷ rec 2 10 110 0 0 0
                ∷ rec 1 4294967295 0 255 0 0
                ∷ rec 2 20 0 1 6 8
                ∷ rec 1 10 110 0 0 0
                ∷ rec 2 20 120 0 0 0
                ∷ rec 2 30 0 1 12 10
                ∷ rec 2 20 120 0 0 0
                ∷ rec 1 30 0 26 16 17
                ∷ rec 2 20 0 27 6 15
                ∷ rec 1 25 0 26 13 14
                ∷ rec 1 20 120 0 0 0
                ∷ rec 1 25 125 0 0 0
                ∷ rec 2 30 0 27 12 10
                ∷ rec 1 30 0 28 17 10
                ∷ rec 1 20 0 27 6 12
                ∷ [];
          });
    }
    -- 444: double rotation at rank 28: no rank passes 28
    ∷ record {
      start = beside;
      lines =
          damage (field 11 3 28)
          ∷ damage (field 15 3 28)
          ∷ damage (field 12 3 27)
          ∷ call (step 0 2) 0 0
          ∷ [];
      after =
          left (record {
            used = 19;
            root = 25 ∷ 28 ∷ [];
            settled = 51 ∷ [];
            busy = 0 ∷ [];
            fares = 0 ∷ 10 ∷ 110 ∷ 20 ∷ 120 ∷ 25 ∷ 125 ∷ 30 ∷ 130 ∷ [];
            figures = 0 ∷ 2 ∷ 0 ∷ 1 ∷ 4 ∷ 4 ∷ 1 ∷ 3 ∷ [];
            table =
                rec 1 4294967295 0 255 2 0
                ∷ rec 2 4294967295 0 255 0 0
                ∷ rec 1 4294967295 0 255 16 4
                ∷ rec 2 10 110 0 0 0
                ∷ rec 1 4294967295 0 255 0 0
                ∷ rec 2 20 0 1 6 8
                ∷ rec 1 10 110 0 0 0
                ∷ rec 2 20 120 0 0 0
                ∷ rec 2 30 0 1 12 10
                ∷ rec 2 20 120 0 0 0
                ∷ rec 1 30 130 0 0 0
                ∷ rec 2 20 0 28 6 15
                ∷ rec 2 25 0 27 13 14
                ∷ rec 1 20 120 0 0 0
                ∷ rec 1 25 125 0 0 0
                ∷ rec 2 30 0 28 12 10
                ∷ rec 1 25 0 28 17 18
                ∷ rec 1 20 0 27 6 13
                ∷ rec 1 30 0 27 14 10
                ∷ [];
          });
    }
    -- 445: 17, y is not well formed at its reading
    ∷ record {
      start = beside;
      lines =
          damage (field 12 2 1)
          ∷ call (step 0 1) 17 0
          ∷ [];
      after = same;
    }
    -- 446: 17, w is not well formed at the reading of y
    ∷ record {
      start = beside;
      lines =
          damage (field 10 2 100000)
          ∷ call (step 0 1) 17 0
          ∷ [];
      after = same;
    }
    -- 447: 17, x is not well formed at the reading of y
    ∷ record {
      start = beside;
      lines =
          damage (field 15 2 1)
          ∷ call (step 0 1) 17 0
          ∷ [];
      after = same;
    }
    -- 448: 17, s is not well formed at the reading of y
    ∷ record {
      start = beside;
      lines =
          damage (field 6 2 100000)
          ∷ call (step 0 1) 17 0
          ∷ [];
      after = same;
    }
    -- 449: 17, z is not well formed at the reading of y
    ∷ record {
      start = beside;
      lines =
          damage (field 11 2 1)
          ∷ call (step 0 1) 17 0
          ∷ [];
      after = same;
    }
    -- 450: pz is not looked at at the reading of y
    ∷ record {
      start = beside;
      lines =
          damage (field 2 2 1)
          ∷ call (step 0 1) 0 0
          ∷ damage (field 2 2 0)
          ∷ call (step 0 1) 0 0
          ∷ [];
      after =
          left (record {
            used = 19;
            root = 25 ∷ 2 ∷ [];
            settled = 51 ∷ [];
            busy = 0 ∷ [];
            fares = 0 ∷ 10 ∷ 110 ∷ 20 ∷ 120 ∷ 25 ∷ 125 ∷ 30 ∷ 130 ∷ [];
            figures = 0 ∷ 2 ∷ 0 ∷ 1 ∷ 4 ∷ 4 ∷ 1 ∷ 3 ∷ [];
            table =
                rec 1 4294967295 0 255 2 0
                ∷ rec 2 4294967295 0 255 0 0
                ∷ rec 1 4294967295 0 255 16 4
                ∷ rec 2 10 110 0 0 0
                ∷ rec 1 4294967295 0 255 0 0
                ∷ rec 2 20 0 1 6 8
                ∷ rec 1 10 110 0 0 0
                ∷ rec 2 20 120 0 0 0
                ∷ rec 2 30 0 1 12 10
                ∷ rec 2 20 120 0 0 0
                ∷ rec 1 30 130 0 0 0
                ∷ rec 2 20 0 2 6 15
                ∷ rec 2 25 0 1 13 14
                ∷ rec 1 20 120 0 0 0
                ∷ rec 1 25 125 0 0 0
                ∷ rec 2 30 0 2 12 10
                ∷ rec 1 25 0 2 17 18
                ∷ rec 1 20 0 1 6 13
                ∷ rec 1 30 0 1 14 10
                ∷ [];
          });
    }
    -- 451: 17, but at the double rotation's commit it is
    ∷ record {
      start = beside;
      lines =
          damage (field 2 2 1)
          ∷ call (step 0 1) 0 0
          ∷ call (step 0 1) 17 0
          ∷ [];
      after = same;
    }
    -- 452: y is in state 2 at its reading: the walk starts again
    ∷ record {
      start = beside;
      lines =
          damage (field 12 0 2)
          ∷ call (step 0 1) 0 0
          ∷ damage (field 0 2 1)
          ∷ call (step 0 1) 17 0
          ∷ [];
      after = same;
    }
    -- 453: z, s, x and w in state 2 are no matter at the reading of y
    ∷ record {
      start = beside;
      lines =
          damage (field 11 0 2)
          ∷ damage (field 6 0 2)
          ∷ damage (field 15 0 2)
          ∷ damage (field 10 0 2)
          ∷ call (step 0 1) 0 0
          ∷ damage (field 11 0 1)
          ∷ damage (field 15 0 1)
          ∷ call (step 0 1) 0 0
          ∷ [];
      after =
          left (record {
            used = 19;
            root = 25 ∷ 2 ∷ [];
            settled = 51 ∷ [];
            busy = 0 ∷ [];
            fares = 17 ∷ [];
            figures = 17 ∷ 0 ∷ 0 ∷ 0 ∷ 0 ∷ 0 ∷ 0 ∷ 0 ∷ [];
            table =
                rec 1 4294967295 0 255 2 0
                ∷ rec 2 4294967295 0 255 0 0
                ∷ rec 1 4294967295 0 255 16 4
                ∷ rec 2 10 110 0 0 0
                ∷ rec 1 4294967295 0 255 0 0
                ∷ rec 2 20 0 1 6 8
                ∷ rec 2 10 110 0 0 0
                ∷ rec 2 20 120 0 0 0
                ∷ rec 2 30 0 1 12 10
                ∷ rec 2 20 120 0 0 0
                ∷ rec 2 30 130 0 0 0
                ∷ rec 2 20 0 2 6 15
                ∷ rec 2 25 0 1 13 14
                ∷ rec 1 20 120 0 0 0
                ∷ rec 1 25 125 0 0 0
                ∷ rec 2 30 0 2 12 10
                ∷ rec 1 25 0 2 17 18
                ∷ rec 1 20 0 1 6 13
                ∷ rec 1 30 0 1 14 10
                ∷ [];
          });
    }
    -- 454: 17, y is not well formed at the commit of a double rotation
    ∷ record {
      start = beside;
      lines =
          call (step 0 1) 0 0
          ∷ damage (field 12 2 1)
          ∷ call (step 0 1) 17 0
          ∷ [];
      after = same;
    }
    -- 455: 17, w is not well formed at the commit of a double rotation
    ∷ record {
      start = beside;
      lines =
          call (step 0 1) 0 0
          ∷ damage (field 10 2 100000)
          ∷ call (step 0 1) 17 0
          ∷ [];
      after = same;
    }
    -- 456: 17, s is not well formed at the commit of a double rotation
    ∷ record {
      start = beside;
      lines =
          call (step 0 1) 0 0
          ∷ damage (field 6 2 100000)
          ∷ call (step 0 1) 17 0
          ∷ [];
      after = same;
    }
    -- 457: y is in state 2 at the commit of a double rotation: the walk starts again
    ∷ record {
      start = beside;
      lines =
          call (step 0 1) 0 0
          ∷ damage (field 12 0 2)
          ∷ call (step 0 1) 0 0
          ∷ damage (field 0 2 1)
          ∷ call (step 0 1) 17 0
          ∷ [];
      after = same;
    }
    -- 458: a link of y has changed at the commit of a double rotation: the walk starts again
    ∷ record {
      start = beside;
      lines =
          call (step 0 1) 0 0
          ∷ damage (field 12 4 16)
          ∷ call (step 0 1) 0 0
          ∷ damage (field 0 2 1)
          ∷ call (step 0 1) 17 0
          ∷ [];
      after = same;
    }
    -- 459: x is in state 2 at the commit of a double rotation: the walk starts again
    ∷ record {
      start = beside;
      lines =
          call (step 0 1) 0 0
          ∷ damage (field 15 0 2)
          ∷ call (step 0 1) 0 0
          ∷ damage (field 0 2 1)
          ∷ call (step 0 1) 17 0
          ∷ [];
      after = same;
    }
    -- 460: 17, y and z are one and the same
    ∷ record {
      start = beside;
      lines =
          damage (task_is 0 (busy 25 125 (Settling (path 2 11 15) (SettleDouble (links 11 4) (links 6 15) (links 11 10) (links 13 14)))))
          ∷ call (step 0 1) 17 0
          ∷ [];
      after = same;
    }
    -- 461: 17, y and x are one and the same
    ∷ record {
      start = beside;
      lines =
          damage (task_is 0 (busy 25 125 (Settling (path 2 11 15) (SettleDouble (links 11 4) (links 6 15) (links 15 10) (links 13 14)))))
          ∷ call (step 0 1) 17 0
          ∷ [];
      after = same;
    }
    -- 462: 17, y and pz are one and the same
    ∷ record {
      start = beside;
      lines =
          damage (task_is 0 (busy 25 125 (Settling (path 2 11 15) (SettleDouble (links 11 4) (links 6 15) (links 2 10) (links 13 14)))))
          ∷ call (step 0 1) 17 0
          ∷ [];
      after = same;
    }
    -- 463: four records, but x's noted links are not its own: the walk starts again
    ∷ record {
      start = beside;
      lines =
          damage (task_is 0 (busy 25 125 (Settling (path 2 11 15) (SettleDouble (links 11 4) (links 6 15) (links 12 13) (links 13 14)))))
          ∷ call (step 0 1) 0 0
          ∷ damage (field 0 2 1)
          ∷ call (step 0 1) 17 0
          ∷ [];
      after = same;
    }
    -- 464: 17, x minus y is 0 after y was read
    ∷ record {
      start = beside;
      lines =
          call (step 0 1) 0 0
          ∷ damage (field 12 3 2)
          ∷ call (step 0 1) 17 0
          ∷ [];
      after = same;
    }
    -- 465: x minus y is 0 after y was read, but y was taken off: the walk starts again
    ∷ record {
      start = beside;
      lines =
          call (step 0 1) 0 0
          ∷ damage (field 12 3 2)
          ∷ damage (field 12 0 2)
          ∷ call (step 0 1) 0 0
          ∷ damage (field 0 2 1)
          ∷ call (step 0 1) 17 0
          ∷ [];
      after = same;
    }
    -- 466: the ranks of now say rotate case 2 after y was read
    ∷ record {
      start = beside;
      lines =
          call (step 0 1) 0 0
          ∷ damage (field 10 2 0)
          ∷ damage (field 10 3 1)
          ∷ damage (field 10 4 16)
          ∷ damage (field 10 5 17)
          ∷ call (step 0 1) 0 0
          ∷ [];
      after =
          left (record {
            used = 18;
            root = 30 ∷ 3 ∷ [];
            settled = 41 ∷ [];
            busy = 0 ∷ [];
            fares = 17 ∷ [];
            figures = 17 ∷ 0 ∷ 0 ∷ 0 ∷ 0 ∷ 0 ∷ 0 ∷ 0 ∷ [];
            table =
                rec 1 4294967295 0 255 2 0
                ∷ rec 2 4294967295 0 255 0 0
                ∷ rec 1 4294967295 0 255 16 4
                ∷ rec 2 10 110 0 0 0
                ∷ rec 1 4294967295 0 255 0 0
                ∷ rec 2 20 0 1 6 8
                ∷ rec 1 10 110 0 0 0
                ∷ rec 2 20 120 0 0 0
                ∷ rec 2 30 0 1 12 10
                ∷ rec 2 20 120 0 0 0
                ∷ rec 1 30 0 1 16 17
                ∷ rec 2 20 0 2 6 15
                ∷ rec 1 25 0 1 13 14
                ∷ rec 1 20 120 0 0 0
                ∷ rec 1 25 125 0 0 0
                ∷ rec 2 30 0 2 12 10
                ∷ rec 1 30 0 3 17 10
                ∷ rec 1 20 0 2 6 12
                ∷ [];
          });
    }
    -- 467: that rotation tests y, which was read: the walk starts again
    ∷ record {
      start = beside;
      lines =
          call (step 0 1) 0 0
          ∷ damage (field 10 2 0)
          ∷ damage (field 10 3 1)
          ∷ damage (field 10 4 16)
          ∷ damage (field 10 5 17)
          ∷ damage (field 12 0 2)
          ∷ call (step 0 1) 0 0
          ∷ damage (field 0 2 1)
          ∷ call (step 0 1) 17 0
          ∷ [];
      after = same;
    }
    -- 468: the ranks of now say rotate case 1 after y was read
    ∷ record {
      start = beside;
      lines =
          call (step 0 1) 0 0
          ∷ damage (field 11 3 3)
          ∷ damage (field 15 3 3)
          ∷ call (step 0 1) 0 0
          ∷ [];
      after =
          left (record {
            used = 18;
            root = 30 ∷ 3 ∷ [];
            settled = 31 ∷ [];
            busy = 0 ∷ [];
            fares = 0 ∷ 10 ∷ 110 ∷ 20 ∷ 120 ∷ 25 ∷ 125 ∷ 30 ∷ 130 ∷ [];
            figures = 0 ∷ 3 ∷ 0 ∷ 1 ∷ 4 ∷ 4 ∷ 2 ∷ 3 ∷ [];
            table =
                rec 1 4294967295 0 255 2 0
                ∷ rec 2 4294967295 0 255 0 0
                ∷ rec 1 4294967295 0 255 16 4
                ∷ rec 2 10 110 0 0 0
                ∷ rec 1 4294967295 0 255 0 0
                ∷ rec 2 20 0 1 6 8
                ∷ rec 1 10 110 0 0 0
                ∷ rec 2 20 120 0 0 0
                ∷ rec 2 30 0 1 12 10
                ∷ rec 2 20 120 0 0 0
                ∷ rec 1 30 130 0 0 0
                ∷ rec 2 20 0 3 6 15
                ∷ rec 1 25 0 1 13 14
                ∷ rec 1 20 120 0 0 0
                ∷ rec 1 25 125 0 0 0
                ∷ rec 2 30 0 3 12 10
                ∷ rec 1 30 0 3 17 10
                ∷ rec 1 20 0 2 6 12
                ∷ [];
          });
    }
    -- 469: the ranks of now say promote after y was read
    ∷ record {
      start = beside;
      lines =
          call (step 0 1) 0 0
          ∷ damage (field 6 2 0)
          ∷ damage (field 6 3 2)
          ∷ damage (field 6 4 16)
          ∷ damage (field 6 5 17)
          ∷ call (step 0 1) 0 0
          ∷ [];
      after =
          left (record {
            used = 17;
            root = 20 ∷ 3 ∷ [];
            settled = 11 ∷ [];
            busy = 0 ∷ [];
            fares = 17 ∷ [];
            figures = 17 ∷ 0 ∷ 0 ∷ 0 ∷ 0 ∷ 0 ∷ 0 ∷ 0 ∷ [];
            table =
                rec 1 4294967295 0 255 2 0
                ∷ rec 2 4294967295 0 255 0 0
                ∷ rec 1 4294967295 0 255 16 4
                ∷ rec 2 10 110 0 0 0
                ∷ rec 1 4294967295 0 255 0 0
                ∷ rec 2 20 0 1 6 8
                ∷ rec 1 10 0 2 16 17
                ∷ rec 2 20 120 0 0 0
                ∷ rec 2 30 0 1 12 10
                ∷ rec 2 20 120 0 0 0
                ∷ rec 1 30 130 0 0 0
                ∷ rec 2 20 0 2 6 15
                ∷ rec 1 25 0 1 13 14
                ∷ rec 1 20 120 0 0 0
                ∷ rec 1 25 125 0 0 0
                ∷ rec 1 30 0 2 12 10
                ∷ rec 1 20 0 3 6 15
                ∷ [];
          });
    }
    -- 470: that promote does not look at w
    ∷ record {
      start = beside;
      lines =
          call (step 0 1) 0 0
          ∷ damage (field 6 2 0)
          ∷ damage (field 6 3 2)
          ∷ damage (field 6 4 16)
          ∷ damage (field 6 5 17)
          ∷ damage (field 10 2 100000)
          ∷ call (step 0 1) 0 0
          ∷ [];
      after =
          left (record {
            used = 17;
            root = 20 ∷ 3 ∷ [];
            settled = 11 ∷ [];
            busy = 0 ∷ [];
            fares = 17 ∷ [];
            figures = 17 ∷ 0 ∷ 0 ∷ 0 ∷ 0 ∷ 0 ∷ 0 ∷ 0 ∷ [];
            table =
                rec 1 4294967295 0 255 2 0
                ∷ rec 2 4294967295 0 255 0 0
                ∷ rec 1 4294967295 0 255 16 4
                ∷ rec 2 10 110 0 0 0
                ∷ rec 1 4294967295 0 255 0 0
                ∷ rec 2 20 0 1 6 8
                ∷ rec 1 10 0 2 16 17
                ∷ rec 2 20 120 0 0 0
                ∷ rec 2 30 0 1 12 10
                ∷ rec 2 20 120 0 0 0
                ∷ rec 1 30 100000 0 0 0
                ∷ rec 2 20 0 2 6 15
                ∷ rec 1 25 0 1 13 14
                ∷ rec 1 20 120 0 0 0
                ∷ rec 1 25 125 0 0 0
                ∷ rec 1 30 0 2 12 10
                ∷ rec 1 20 0 3 6 15
                ∷ [];
          });
    }
    -- 471: that promote tests y, which was read: the walk starts again
    ∷ record {
      start = beside;
      lines =
          call (step 0 1) 0 0
          ∷ damage (field 6 2 0)
          ∷ damage (field 6 3 2)
          ∷ damage (field 6 4 16)
          ∷ damage (field 6 5 17)
          ∷ damage (field 12 0 2)
          ∷ call (step 0 1) 0 0
          ∷ damage (field 0 2 1)
          ∷ call (step 0 1) 17 0
          ∷ [];
      after = same;
    }
    -- 472: 17, that promote must read y for its test, and y is not well formed
    ∷ record {
      start = beside;
      lines =
          call (step 0 1) 0 0
          ∷ damage (field 6 2 0)
          ∷ damage (field 6 3 2)
          ∷ damage (field 6 4 16)
          ∷ damage (field 6 5 17)
          ∷ damage (field 12 2 1)
          ∷ call (step 0 1) 17 0
          ∷ [];
      after = same;
    }
    -- 473: 17, w outranks x after y was read
    ∷ record {
      start = beside;
      lines =
          call (step 0 1) 0 0
          ∷ damage (field 10 2 0)
          ∷ damage (field 10 3 3)
          ∷ damage (field 10 4 16)
          ∷ damage (field 10 5 17)
          ∷ call (step 0 1) 17 0
          ∷ [];
      after = same;
    }
    -- 474: 17, x minus w is 0 after y was read: no row fits
    ∷ record {
      start = beside;
      lines =
          call (step 0 1) 0 0
          ∷ damage (field 10 2 0)
          ∷ damage (field 10 3 2)
          ∷ damage (field 10 4 16)
          ∷ damage (field 10 5 17)
          ∷ call (step 0 1) 17 0
          ∷ [];
      after = same;
    }
    -- 475: 17, s outranks z after y was read
    ∷ record {
      start = beside;
      lines =
          call (step 0 1) 0 0
          ∷ damage (field 6 2 0)
          ∷ damage (field 6 3 3)
          ∷ damage (field 6 4 16)
          ∷ damage (field 6 5 17)
          ∷ call (step 0 1) 17 0
          ∷ [];
      after = same;
    }
    -- 476: s outranks z after y was read, but y was taken off: the walk starts again
    ∷ record {
      start = beside;
      lines =
          call (step 0 1) 0 0
          ∷ damage (field 6 2 0)
          ∷ damage (field 6 3 3)
          ∷ damage (field 6 4 16)
          ∷ damage (field 6 5 17)
          ∷ damage (field 12 0 2)
          ∷ call (step 0 1) 0 0
          ∷ damage (field 0 2 1)
          ∷ call (step 0 1) 17 0
          ∷ [];
      after = same;
    }
    -- 477: base: 35 put in after 40, 30, 20; x was read; pz, z, s, x, y, w are 2, 11, 7, 15, 12, 9
    ∷ record {
      start = anew 20;
      lines =
          call (begin 0 PutIn 40 140) 0 0
          ∷ call (step 0 4) 3 0
          ∷ call (begin 0 PutIn 30 130) 0 0
          ∷ call (step 0 5) 3 0
          ∷ call (begin 0 PutIn 20 120) 0 0
          ∷ call (step 0 16) 3 0
          ∷ call (begin 0 PutIn 35 135) 0 0
          ∷ call (step 0 20) 0 0
          ∷ [];
      after =
          left (record {
            used = 16;
            root = 40 ∷ 2 ∷ [];
            settled = 20 ∷ 21 ∷ [];
            busy = 0 ∷ [];
            fares = 0 ∷ 20 ∷ 120 ∷ 30 ∷ 130 ∷ 35 ∷ 135 ∷ 40 ∷ 140 ∷ [];
            figures = 0 ∷ 3 ∷ 1 ∷ 1 ∷ 4 ∷ 4 ∷ 4 ∷ 3 ∷ [];
            table =
                rec 1 4294967295 0 255 2 0
                ∷ rec 2 4294967295 0 255 0 0
                ∷ rec 1 4294967295 0 255 11 4
                ∷ rec 2 40 140 0 0 0
                ∷ rec 1 4294967295 0 255 0 0
                ∷ rec 2 40 0 1 8 7
                ∷ rec 2 30 130 0 0 0
                ∷ rec 1 40 140 0 0 0
                ∷ rec 2 30 0 1 9 12
                ∷ rec 1 20 120 0 0 0
                ∷ rec 2 30 130 0 0 0
                ∷ rec 1 40 0 2 15 7
                ∷ rec 1 35 0 1 13 14
                ∷ rec 1 30 130 0 0 0
                ∷ rec 1 35 135 0 0 0
                ∷ rec 1 30 0 2 9 12
                ∷ [];
          });
    }
    -- 478: y is read, then the double rotation is made
    ∷ record {
      start = onward;
      lines =
          call (step 0 2) 0 0
          ∷ [];
      after =
          left (record {
            used = 19;
            root = 35 ∷ 2 ∷ [];
            settled = 50 ∷ [];
            busy = 0 ∷ [];
            fares = 0 ∷ 20 ∷ 120 ∷ 30 ∷ 130 ∷ 35 ∷ 135 ∷ 40 ∷ 140 ∷ [];
            figures = 0 ∷ 2 ∷ 0 ∷ 1 ∷ 4 ∷ 4 ∷ 1 ∷ 3 ∷ [];
            table =
                rec 1 4294967295 0 255 2 0
                ∷ rec 2 4294967295 0 255 0 0
                ∷ rec 1 4294967295 0 255 16 4
                ∷ rec 2 40 140 0 0 0
                ∷ rec 1 4294967295 0 255 0 0
                ∷ rec 2 40 0 1 8 7
                ∷ rec 2 30 130 0 0 0
                ∷ rec 1 40 140 0 0 0
                ∷ rec 2 30 0 1 9 12
                ∷ rec 1 20 120 0 0 0
                ∷ rec 2 30 130 0 0 0
                ∷ rec 2 40 0 2 15 7
                ∷ rec 2 35 0 1 13 14
                ∷ rec 1 30 130 0 0 0
                ∷ rec 1 35 135 0 0 0
                ∷ rec 2 30 0 2 9 12
                ∷ rec 1 35 0 2 17 18
                ∷ rec 1 30 0 1 9 13
                ∷ rec 1 40 0 1 14 7
                ∷ [];
          });
    }
    -- 479: x minus w is 1: rotate case 2
    ∷ record {
      start = beside;
      lines =
          damage (field 9 2 0)
          ∷ damage (field 9 3 1)
          ∷ damage (field 9 4 16)
          ∷ damage (field 9 5 17)
          ∷ call (step 0 1) 0 0
          ∷ [];
      after =
          left (record {
            used = 18;
            root = 30 ∷ 3 ∷ [];
            settled = 40 ∷ [];
            busy = 0 ∷ [];
            fares = 17 ∷ [];
            figures = 17 ∷ 0 ∷ 0 ∷ 0 ∷ 0 ∷ 0 ∷ 0 ∷ 0 ∷ [];
            table =
                rec 1 4294967295 0 255 2 0
                ∷ rec 2 4294967295 0 255 0 0
                ∷ rec 1 4294967295 0 255 16 4
                ∷ rec 2 40 140 0 0 0
                ∷ rec 1 4294967295 0 255 0 0
                ∷ rec 2 40 0 1 8 7
                ∷ rec 2 30 130 0 0 0
                ∷ rec 1 40 140 0 0 0
                ∷ rec 2 30 0 1 9 12
                ∷ rec 1 20 0 1 16 17
                ∷ rec 2 30 130 0 0 0
                ∷ rec 2 40 0 2 15 7
                ∷ rec 1 35 0 1 13 14
                ∷ rec 1 30 130 0 0 0
                ∷ rec 1 35 135 0 0 0
                ∷ rec 2 30 0 2 9 12
                ∷ rec 1 30 0 3 9 17
                ∷ rec 1 40 0 2 12 7
                ∷ [];
          });
    }
    -- 480: x minus y is 2: rotate case 1
    ∷ record {
      start = beside;
      lines =
          damage (field 11 3 3)
          ∷ damage (field 15 3 3)
          ∷ call (step 0 1) 0 0
          ∷ [];
      after =
          left (record {
            used = 18;
            root = 30 ∷ 3 ∷ [];
            settled = 30 ∷ [];
            busy = 0 ∷ [];
            fares = 0 ∷ 20 ∷ 120 ∷ 30 ∷ 130 ∷ 35 ∷ 135 ∷ 40 ∷ 140 ∷ [];
            figures = 0 ∷ 3 ∷ 0 ∷ 1 ∷ 4 ∷ 4 ∷ 2 ∷ 3 ∷ [];
            table =
                rec 1 4294967295 0 255 2 0
                ∷ rec 2 4294967295 0 255 0 0
                ∷ rec 1 4294967295 0 255 16 4
                ∷ rec 2 40 140 0 0 0
                ∷ rec 1 4294967295 0 255 0 0
                ∷ rec 2 40 0 1 8 7
                ∷ rec 2 30 130 0 0 0
                ∷ rec 1 40 140 0 0 0
                ∷ rec 2 30 0 1 9 12
                ∷ rec 1 20 120 0 0 0
                ∷ rec 2 30 130 0 0 0
                ∷ rec 2 40 0 3 15 7
                ∷ rec 1 35 0 1 13 14
                ∷ rec 1 30 130 0 0 0
                ∷ rec 1 35 135 0 0 0
                ∷ rec 2 30 0 3 9 12
                ∷ rec 1 30 0 3 9 17
                ∷ rec 1 40 0 2 12 7
                ∷ [];
          });
    }
    -- 481: z minus s is 1: promote case 2
    ∷ record {
      start = beside;
      lines =
          damage (field 7 2 0)
          ∷ damage (field 7 3 1)
          ∷ damage (field 7 4 16)
          ∷ damage (field 7 5 17)
          ∷ call (step 0 1) 0 0
          ∷ [];
      after =
          left (record {
            used = 17;
            root = 40 ∷ 3 ∷ [];
            settled = 20 ∷ [];
            busy = 0 ∷ [];
            fares = 17 ∷ [];
            figures = 17 ∷ 0 ∷ 0 ∷ 0 ∷ 0 ∷ 0 ∷ 0 ∷ 0 ∷ [];
            table =
                rec 1 4294967295 0 255 2 0
                ∷ rec 2 4294967295 0 255 0 0
                ∷ rec 1 4294967295 0 255 16 4
                ∷ rec 2 40 140 0 0 0
                ∷ rec 1 4294967295 0 255 0 0
                ∷ rec 2 40 0 1 8 7
                ∷ rec 2 30 130 0 0 0
                ∷ rec 1 40 0 1 16 17
                ∷ rec 2 30 0 1 9 12
                ∷ rec 1 20 120 0 0 0
                ∷ rec 2 30 130 0 0 0
                ∷ rec 2 40 0 2 15 7
                ∷ rec 1 35 0 1 13 14
                ∷ rec 1 30 130 0 0 0
                ∷ rec 1 35 135 0 0 0
                ∷ rec 1 30 0 2 9 12
                ∷ rec 1 40 0 3 15 7
                ∷ [];
          });
    }
    -- 482: 17, s on the right is not well formed
    ∷ record {
      start = beside;
      lines =
          damage (field 7 2 100000)
          ∷ call (step 0 1) 17 0
          ∷ [];
      after = same;
    }
    -- 483: 17, y on the right is not well formed
    ∷ record {
      start = beside;
      lines =
          damage (field 12 2 1)
          ∷ call (step 0 1) 17 0
          ∷ [];
      after = same;
    }
    -- 484: 17, w on the left is not well formed
    ∷ record {
      start = beside;
      lines =
          damage (field 9 2 100000)
          ∷ call (step 0 1) 17 0
          ∷ [];
      after = same;
    }
    -- 485: 17, s on the right outranks z
    ∷ record {
      start = beside;
      lines =
          damage (field 7 2 0)
          ∷ damage (field 7 3 3)
          ∷ damage (field 7 4 16)
          ∷ damage (field 7 5 17)
          ∷ call (step 0 1) 17 0
          ∷ [];
      after = same;
    }
    -- 486: 17, y on the right outranks x
    ∷ record {
      start = beside;
      lines =
          damage (field 12 3 3)
          ∷ call (step 0 1) 17 0
          ∷ [];
      after = same;
    }
    -- 487: 17, y on the right is level with x: no row fits
    ∷ record {
      start = beside;
      lines =
          damage (field 12 3 2)
          ∷ call (step 0 1) 17 0
          ∷ [];
      after = same;
    }
    -- 488: 17, w on the left outranks x
    ∷ record {
      start = beside;
      lines =
          damage (field 9 2 0)
          ∷ damage (field 9 3 3)
          ∷ damage (field 9 4 16)
          ∷ damage (field 9 5 17)
          ∷ call (step 0 1) 17 0
          ∷ [];
      after = same;
    }
    -- 489: 17, w on the left is level with x: no row fits
    ∷ record {
      start = beside;
      lines =
          damage (field 9 2 0)
          ∷ damage (field 9 3 2)
          ∷ damage (field 9 4 16)
          ∷ damage (field 9 5 17)
          ∷ call (step 0 1) 17 0
          ∷ [];
      after = same;
    }
    -- 490: 17, z's noted links do not lead to x: s is the left one though x stood on the left
    ∷ record {
      start = beside;
      lines =
          damage (task_is 0 (busy 35 135 (Settling (path 2 11 15) (SettleRotate (links 11 4) (links 7 6) (links 9 12)))))
          ∷ call (step 0 1) 17 0
          ∷ [];
      after = same;
    }
    -- 491: base: 10, 20, 30 put in and tidied
    ∷ record {
      start = anew 16;
      lines =
          call (begin 0 PutIn 10 110) 0 0
          ∷ call (step 0 4) 3 0
          ∷ call (begin 0 PutIn 20 120) 0 0
          ∷ call (step 0 5) 3 0
          ∷ call (begin 0 PutIn 30 130) 0 0
          ∷ call (step 0 16) 3 0
          ∷ call tidy 0 0
          ∷ [];
      after =
          left (record {
            used = 8;
            root = 20 ∷ 2 ∷ [];
            settled = 21 ∷ [];
            busy = [];
            fares = 0 ∷ 10 ∷ 110 ∷ 20 ∷ 120 ∷ 30 ∷ 130 ∷ [];
            figures = 0 ∷ 2 ∷ 0 ∷ 0 ∷ 3 ∷ 3 ∷ 8 ∷ 2 ∷ [];
            table =
                rec 1 4294967295 0 255 2 0
                ∷ rec 0 0 0 0 0 0
                ∷ rec 1 4294967295 0 255 11 4
                ∷ rec 0 0 0 0 0 0
                ∷ rec 1 4294967295 0 255 0 0
                ∷ rec 0 0 0 0 0 0
                ∷ rec 1 10 110 0 0 0
                ∷ rec 0 0 0 0 0 0
                ∷ rec 1 30 0 1 9 10
                ∷ rec 1 20 120 0 0 0
                ∷ rec 1 30 130 0 0 0
                ∷ rec 1 20 0 2 6 8
                ∷ [];
          });
    }
    -- 492: 17 from tidy, an inner record is not well formed
    ∷ record {
      start = onward;
      lines =
          damage (field 8 2 1)
          ∷ call tidy 17 0
          ∷ [];
      after = same;
    }
    -- 493: 17 from figures, an inner record is not well formed
    ∷ record {
      start = beside;
      lines =
          damage (field 8 2 1)
          ∷ call figures 17 0
          ∷ [];
      after = same;
    }
    -- 494: 17 from list, an inner record is not well formed
    ∷ record {
      start = beside;
      lines =
          damage (field 8 2 1)
          ∷ call (list 6) 17 0
          ∷ [];
      after = same;
    }
    -- 495: 17 from tidy, a leaf is not well formed
    ∷ record {
      start = beside;
      lines =
          damage (field 10 2 100000)
          ∷ call tidy 17 0
          ∷ [];
      after = same;
    }
    -- 496: 17 from figures, the entry is not well formed
    ∷ record {
      start = beside;
      lines =
          damage (field 0 2 1)
          ∷ call figures 17 0
          ∷ [];
      after = same;
    }
    -- 497: 17 from list, the entry is not well formed
    ∷ record {
      start = beside;
      lines =
          damage (field 0 5 5)
          ∷ call (list 6) 17 0
          ∷ [];
      after = same;
    }
    -- 498: 17 from figures, a link to a free slot
    ∷ record {
      start = beside;
      lines =
          damage (field 8 4 15)
          ∷ call figures 17 0
          ∷ [];
      after = same;
    }
    -- 499: a hurt record that the entry does not reach: figures
    ∷ record {
      start = beside;
      lines =
          damage (field 13 0 7)
          ∷ damage (field 13 1 5000000)
          ∷ call figures 0 0
          ∷ [];
      after = same;
    }
    -- 500: a hurt record that the entry does not reach: tidy sets it to zero
    ∷ record {
      start = beside;
      lines =
          damage (field 13 0 7)
          ∷ damage (field 13 1 5000000)
          ∷ call tidy 0 0
          ∷ [];
      after =
          left (record {
            used = 8;
            root = 20 ∷ 2 ∷ [];
            settled = [];
            busy = [];
            fares = 0 ∷ 10 ∷ 110 ∷ 20 ∷ 120 ∷ 30 ∷ 130 ∷ [];
            figures = 0 ∷ 2 ∷ 0 ∷ 0 ∷ 3 ∷ 3 ∷ 8 ∷ 2 ∷ [];
            table =
                rec 1 4294967295 0 255 2 0
                ∷ rec 0 0 0 0 0 0
                ∷ rec 1 4294967295 0 255 11 4
                ∷ rec 0 0 0 0 0 0
                ∷ rec 1 4294967295 0 255 0 0
                ∷ rec 0 0 0 0 0 0
                ∷ rec 1 10 110 0 0 0
                ∷ rec 0 0 0 0 0 0
                ∷ rec 1 30 0 1 9 10
                ∷ rec 1 20 120 0 0 0
                ∷ rec 1 30 130 0 0 0
                ∷ rec 1 20 0 2 6 8
                ∷ [];
          });
    }
    -- 501: a hurt record that the entry does not reach: list
    ∷ record {
      start = beside;
      lines =
          damage (field 13 0 7)
          ∷ call (list 6) 0 0
          ∷ [];
      after = same;
    }
    -- 502: 17 from tidy, a record in state 2
    ∷ record {
      start = beside;
      lines =
          damage (field 8 0 2)
          ∷ call tidy 17 0
          ∷ [];
      after = same;
    }
    -- 503: 17 from figures, a leaf in state 2
    ∷ record {
      start = beside;
      lines =
          damage (field 10 0 2)
          ∷ call figures 17 0
          ∷ [];
      after = same;
    }
    -- 504: 17 from list, a record in state 2
    ∷ record {
      start = beside;
      lines =
          damage (field 11 0 2)
          ∷ call (list 6) 17 0
          ∷ [];
      after = same;
    }
    -- 505: 17 from figures, the entry in state 2
    ∷ record {
      start = beside;
      lines =
          damage (field 0 0 2)
          ∷ call figures 17 0
          ∷ [];
      after = same;
    }
    -- 506: a record in state 2 that the entry does not reach: tidy sets it to zero
    ∷ record {
      start = beside;
      lines =
          damage (field 13 0 2)
          ∷ damage (field 13 1 50)
          ∷ call tidy 0 0
          ∷ [];
      after =
          left (record {
            used = 8;
            root = 20 ∷ 2 ∷ [];
            settled = [];
            busy = [];
            fares = 0 ∷ 10 ∷ 110 ∷ 20 ∷ 120 ∷ 30 ∷ 130 ∷ [];
            figures = 0 ∷ 2 ∷ 0 ∷ 0 ∷ 3 ∷ 3 ∷ 8 ∷ 2 ∷ [];
            table =
                rec 1 4294967295 0 255 2 0
                ∷ rec 0 0 0 0 0 0
                ∷ rec 1 4294967295 0 255 11 4
                ∷ rec 0 0 0 0 0 0
                ∷ rec 1 4294967295 0 255 0 0
                ∷ rec 0 0 0 0 0 0
                ∷ rec 1 10 110 0 0 0
                ∷ rec 0 0 0 0 0 0
                ∷ rec 1 30 0 1 9 10
                ∷ rec 1 20 120 0 0 0
                ∷ rec 1 30 130 0 0 0
                ∷ rec 1 20 0 2 6 8
                ∷ [];
          });
    }
    -- 507: 17 from tidy, a leaf is reached twice
    ∷ record {
      start = beside;
      lines =
          damage (field 11 4 9)
          ∷ call tidy 17 0
          ∷ [];
      after = same;
    }
    -- 508: 17 from figures, a leaf is reached twice
    ∷ record {
      start = beside;
      lines =
          damage (field 11 4 9)
          ∷ call figures 17 0
          ∷ [];
      after = same;
    }
    -- 509: 17 from list, a leaf is reached twice
    ∷ record {
      start = beside;
      lines =
          damage (field 11 4 9)
          ∷ call (list 8) 17 0
          ∷ [];
      after = same;
    }
    -- 510: 17 from figures, links in a ring
    ∷ record {
      start = beside;
      lines =
          damage (field 8 4 11)
          ∷ call figures 17 0
          ∷ [];
      after = same;
    }
    -- 511: 17 from tidy, a record that leads to itself
    ∷ record {
      start = beside;
      lines =
          damage (field 8 4 8)
          ∷ call tidy 17 0
          ∷ [];
      after = same;
    }
    -- 512: another leaf in its place is reached once: tidy frees the old one
    ∷ record {
      start = beside;
      lines =
          damage (field 12 0 1)
          ∷ damage (field 12 1 5)
          ∷ damage (field 12 2 105)
          ∷ damage (field 11 4 12)
          ∷ call tidy 0 0
          ∷ [];
      after =
          left (record {
            used = 8;
            root = 20 ∷ 2 ∷ [];
            settled = [];
            busy = [];
            fares = 0 ∷ 5 ∷ 105 ∷ 20 ∷ 120 ∷ 30 ∷ 130 ∷ [];
            figures = 0 ∷ 2 ∷ 0 ∷ 0 ∷ 3 ∷ 3 ∷ 8 ∷ 2 ∷ [];
            table =
                rec 1 4294967295 0 255 2 0
                ∷ rec 0 0 0 0 0 0
                ∷ rec 1 4294967295 0 255 11 4
                ∷ rec 0 0 0 0 0 0
                ∷ rec 1 4294967295 0 255 0 0
                ∷ rec 0 0 0 0 0 0
                ∷ rec 0 0 0 0 0 0
                ∷ rec 0 0 0 0 0 0
                ∷ rec 1 30 0 1 9 10
                ∷ rec 1 20 120 0 0 0
                ∷ rec 1 30 130 0 0 0
                ∷ rec 1 20 0 2 12 8
                ∷ rec 1 5 105 0 0 0
                ∷ [];
          });
    }
    -- 513: a free slot with other numbers in it counts as free
    ∷ record {
      start = beside;
      lines =
          damage (field 13 1 50)
          ∷ damage (field 13 4 2)
          ∷ call figures 0 0
          ∷ [];
      after = same;
    }
    -- 514: tidy sets all six numbers of a free slot to zero
    ∷ record {
      start = beside;
      lines =
          damage (field 13 1 50)
          ∷ damage (field 13 4 2)
          ∷ call tidy 0 0
          ∷ [];
      after =
          left (record {
            used = 8;
            root = 20 ∷ 2 ∷ [];
            settled = [];
            busy = [];
            fares = 0 ∷ 10 ∷ 110 ∷ 20 ∷ 120 ∷ 30 ∷ 130 ∷ [];
            figures = 0 ∷ 2 ∷ 0 ∷ 0 ∷ 3 ∷ 3 ∷ 8 ∷ 2 ∷ [];
            table =
                rec 1 4294967295 0 255 2 0
                ∷ rec 0 0 0 0 0 0
                ∷ rec 1 4294967295 0 255 11 4
                ∷ rec 0 0 0 0 0 0
                ∷ rec 1 4294967295 0 255 0 0
                ∷ rec 0 0 0 0 0 0
                ∷ rec 1 10 110 0 0 0
                ∷ rec 0 0 0 0 0 0
                ∷ rec 1 30 0 1 9 10
                ∷ rec 1 20 120 0 0 0
                ∷ rec 1 30 130 0 0 0
                ∷ rec 1 20 0 2 6 8
                ∷ [];
          });
    }
    -- 515: a fare hangs on the entry: it counts, and the height is 0
    ∷ record {
      start = beside;
      lines =
          damage (field 0 4 6)
          ∷ call figures 0 0
          ∷ [];
      after =
          left (record {
            used = 8;
            root = 0 ∷ 0 ∷ [];
            settled = [];
            busy = [];
            fares = 0 ∷ 10 ∷ 110 ∷ [];
            figures = 0 ∷ 0 ∷ 0 ∷ 0 ∷ 3 ∷ 1 ∷ 8 ∷ 2 ∷ [];
            table =
                rec 1 4294967295 0 255 6 0
                ∷ rec 0 0 0 0 0 0
                ∷ rec 1 4294967295 0 255 11 4
                ∷ rec 0 0 0 0 0 0
                ∷ rec 1 4294967295 0 255 0 0
                ∷ rec 0 0 0 0 0 0
                ∷ rec 1 10 110 0 0 0
                ∷ rec 0 0 0 0 0 0
                ∷ rec 1 30 0 1 9 10
                ∷ rec 1 20 120 0 0 0
                ∷ rec 1 30 130 0 0 0
                ∷ rec 1 20 0 2 6 8
                ∷ [];
          });
    }
    -- 516: a fare on the right of the entry's child: it counts and is listed last, the height is of those below the root
    ∷ record {
      start = beside;
      lines =
          damage (field 13 0 1)
          ∷ damage (field 13 1 40)
          ∷ damage (field 13 2 140)
          ∷ damage (field 2 5 13)
          ∷ call figures 0 0
          ∷ [];
      after =
          left (record {
            used = 9;
            root = 20 ∷ 2 ∷ [];
            settled = [];
            busy = [];
            fares = 0 ∷ 10 ∷ 110 ∷ 20 ∷ 120 ∷ 30 ∷ 130 ∷ 40 ∷ 140 ∷ [];
            figures = 0 ∷ 2 ∷ 0 ∷ 0 ∷ 3 ∷ 4 ∷ 7 ∷ 2 ∷ [];
            table =
                rec 1 4294967295 0 255 2 0
                ∷ rec 0 0 0 0 0 0
                ∷ rec 1 4294967295 0 255 11 13
                ∷ rec 0 0 0 0 0 0
                ∷ rec 1 4294967295 0 255 0 0
                ∷ rec 0 0 0 0 0 0
                ∷ rec 1 10 110 0 0 0
                ∷ rec 0 0 0 0 0 0
                ∷ rec 1 30 0 1 9 10
                ∷ rec 1 20 120 0 0 0
                ∷ rec 1 30 130 0 0 0
                ∷ rec 1 20 0 2 6 8
                ∷ rec 0 0 0 0 0 0
                ∷ rec 1 40 140 0 0 0
                ∷ [];
          });
    }
    -- 517: ways to sentinel leaves do not count for the height
    ∷ record {
      start = beside;
      lines =
          damage (field 9 1 4294967295)
          ∷ damage (field 9 3 255)
          ∷ damage (field 9 2 0)
          ∷ damage (field 10 1 4294967295)
          ∷ damage (field 10 3 255)
          ∷ damage (field 10 2 0)
          ∷ call figures 0 0
          ∷ [];
      after =
          left (record {
            used = 8;
            root = 20 ∷ 2 ∷ [];
            settled = [];
            busy = [];
            fares = 0 ∷ 10 ∷ 110 ∷ [];
            figures = 0 ∷ 1 ∷ 0 ∷ 0 ∷ 3 ∷ 1 ∷ 8 ∷ 2 ∷ [];
            table =
                rec 1 4294967295 0 255 2 0
                ∷ rec 0 0 0 0 0 0
                ∷ rec 1 4294967295 0 255 11 4
                ∷ rec 0 0 0 0 0 0
                ∷ rec 1 4294967295 0 255 0 0
                ∷ rec 0 0 0 0 0 0
                ∷ rec 1 10 110 0 0 0
                ∷ rec 0 0 0 0 0 0
                ∷ rec 1 30 0 1 9 10
                ∷ rec 1 4294967295 0 255 0 0
                ∷ rec 1 4294967295 0 255 0 0
                ∷ rec 1 20 0 2 6 8
                ∷ [];
          });
    }
    -- 518: no fare below the root record: the height is 0
    ∷ record {
      start = beside;
      lines =
          damage (field 2 4 4)
          ∷ damage (field 2 5 8)
          ∷ call figures 0 0
          ∷ [];
      after =
          left (record {
            used = 8;
            root = 4294967295 ∷ 255 ∷ [];
            settled = [];
            busy = [];
            fares = 0 ∷ 20 ∷ 120 ∷ 30 ∷ 130 ∷ [];
            figures = 0 ∷ 0 ∷ 0 ∷ 0 ∷ 3 ∷ 2 ∷ 8 ∷ 2 ∷ [];
            table =
                rec 1 4294967295 0 255 2 0
                ∷ rec 0 0 0 0 0 0
                ∷ rec 1 4294967295 0 255 4 8
                ∷ rec 0 0 0 0 0 0
                ∷ rec 1 4294967295 0 255 0 0
                ∷ rec 0 0 0 0 0 0
                ∷ rec 1 10 110 0 0 0
                ∷ rec 0 0 0 0 0 0
                ∷ rec 1 30 0 1 9 10
                ∷ rec 1 20 120 0 0 0
                ∷ rec 1 30 130 0 0 0
                ∷ rec 1 20 0 2 6 8
                ∷ [];
          });
    }
    -- 519: level records are counted over all that is reached, sentinels are none
    ∷ record {
      start = beside;
      lines =
          damage (field 8 3 2)
          ∷ call figures 0 0
          ∷ [];
      after =
          left (record {
            used = 8;
            root = 20 ∷ 2 ∷ [];
            settled = [];
            busy = [];
            fares = 0 ∷ 10 ∷ 110 ∷ 20 ∷ 120 ∷ 30 ∷ 130 ∷ [];
            figures = 0 ∷ 2 ∷ 1 ∷ 0 ∷ 3 ∷ 3 ∷ 8 ∷ 2 ∷ [];
            table =
                rec 1 4294967295 0 255 2 0
                ∷ rec 0 0 0 0 0 0
                ∷ rec 1 4294967295 0 255 11 4
                ∷ rec 0 0 0 0 0 0
                ∷ rec 1 4294967295 0 255 0 0
                ∷ rec 0 0 0 0 0 0
                ∷ rec 1 10 110 0 0 0
                ∷ rec 0 0 0 0 0 0
                ∷ rec 1 30 0 2 9 10
                ∷ rec 1 20 120 0 0 0
                ∷ rec 1 30 130 0 0 0
                ∷ rec 1 20 0 2 6 8
                ∷ [];
          });
    }
    -- 520: a child that outranks its parent is no level record
    ∷ record {
      start = beside;
      lines =
          damage (field 8 3 3)
          ∷ call figures 0 0
          ∷ [];
      after =
          left (record {
            used = 8;
            root = 20 ∷ 2 ∷ [];
            settled = [];
            busy = [];
            fares = 0 ∷ 10 ∷ 110 ∷ 20 ∷ 120 ∷ 30 ∷ 130 ∷ [];
            figures = 0 ∷ 2 ∷ 0 ∷ 0 ∷ 3 ∷ 3 ∷ 8 ∷ 2 ∷ [];
            table =
                rec 1 4294967295 0 255 2 0
                ∷ rec 0 0 0 0 0 0
                ∷ rec 1 4294967295 0 255 11 4
                ∷ rec 0 0 0 0 0 0
                ∷ rec 1 4294967295 0 255 0 0
                ∷ rec 0 0 0 0 0 0
                ∷ rec 1 10 110 0 0 0
                ∷ rec 0 0 0 0 0 0
                ∷ rec 1 30 0 3 9 10
                ∷ rec 1 20 120 0 0 0
                ∷ rec 1 30 130 0 0 0
                ∷ rec 1 20 0 2 6 8
                ∷ [];
          });
    }
    -- 521: fares out of order are listed from the leftmost leaf to the rightmost
    ∷ record {
      start = beside;
      lines =
          damage (field 11 4 8)
          ∷ damage (field 11 5 6)
          ∷ call (list 6) 0 0
          ∷ [];
      after =
          left (record {
            used = 8;
            root = 20 ∷ 2 ∷ [];
            settled = [];
            busy = [];
            fares = 0 ∷ 20 ∷ 120 ∷ 30 ∷ 130 ∷ 10 ∷ 110 ∷ [];
            figures = 0 ∷ 2 ∷ 0 ∷ 0 ∷ 3 ∷ 3 ∷ 8 ∷ 2 ∷ [];
            table =
                rec 1 4294967295 0 255 2 0
                ∷ rec 0 0 0 0 0 0
                ∷ rec 1 4294967295 0 255 11 4
                ∷ rec 0 0 0 0 0 0
                ∷ rec 1 4294967295 0 255 0 0
                ∷ rec 0 0 0 0 0 0
                ∷ rec 1 10 110 0 0 0
                ∷ rec 0 0 0 0 0 0
                ∷ rec 1 30 0 1 9 10
                ∷ rec 1 20 120 0 0 0
                ∷ rec 1 30 130 0 0 0
                ∷ rec 1 20 0 2 8 6
                ∷ [];
          });
    }
    -- 522: a list of no fares in no room
    ∷ record {
      start = anew 8;
      lines =
          call (list 0) 0 0
          ∷ [];
      after = same;
    }
    -- 523: begin reads no record: a hurt table is no matter
    ∷ record {
      start = anew 8;
      lines =
          damage (field 0 4 0)
          ∷ damage (field 1 0 7)
          ∷ call (begin 0 PutIn 10 110) 0 0
          ∷ [];
      after =
          left (record {
            used = 2;
            root = 0 ∷ 0 ∷ [];
            settled = [];
            busy = 0 ∷ [];
            fares = 17 ∷ [];
            figures = 17 ∷ 0 ∷ 0 ∷ 0 ∷ 0 ∷ 0 ∷ 0 ∷ 0 ∷ [];
            table =
                rec 1 4294967295 0 255 0 0
                ∷ rec 7 4294967295 0 255 0 0
                ∷ [];
          });
    }
    -- 524: abandon reads no record: a hurt table is no matter
    ∷ record {
      start = beside;
      lines =
          call (begin 0 PutIn 10 110) 0 0
          ∷ damage (field 0 4 0)
          ∷ call (abandon 0) 0 0
          ∷ [];
      after =
          left (record {
            used = 2;
            root = 0 ∷ 0 ∷ [];
            settled = [];
            busy = [];
            fares = 17 ∷ [];
            figures = 17 ∷ 0 ∷ 0 ∷ 0 ∷ 0 ∷ 0 ∷ 0 ∷ 0 ∷ [];
            table =
                rec 1 4294967295 0 255 0 0
                ∷ rec 1 4294967295 0 255 0 0
                ∷ [];
          });
    }
    -- 525: after a 17 the task stays where it was, and goes on once the table is whole again
    ∷ record {
      start = beside;
      lines =
          call (begin 0 PutIn 10 110) 0 0
          ∷ call (step 0 2) 0 0
          ∷ damage (field 1 2 1)
          ∷ call (step 0 1) 17 0
          ∷ call (step 0 1) 17 0
          ∷ damage (field 1 2 0)
          ∷ call (step 0 2) 3 0
          ∷ [];
      after =
          left (record {
            used = 5;
            root = 10 ∷ 0 ∷ [];
            settled = [];
            busy = [];
            fares = 0 ∷ 10 ∷ 110 ∷ [];
            figures = 0 ∷ 0 ∷ 0 ∷ 0 ∷ 1 ∷ 1 ∷ 3 ∷ 0 ∷ [];
            table =
                rec 1 4294967295 0 255 2 0
                ∷ rec 2 4294967295 0 255 0 0
                ∷ rec 1 4294967295 0 255 3 4
                ∷ rec 1 10 110 0 0 0
                ∷ rec 1 4294967295 0 255 0 0
                ∷ [];
          });
    }
    -- 526: eight tasks read one leaf, one commits, seven walk again
    ∷ record {
      start = anew 40;
      lines =
          call (begin 0 PutIn 10 110) 0 0
          ∷ call (begin 1 PutIn 20 120) 0 0
          ∷ call (begin 2 PutIn 30 130) 0 0
          ∷ call (begin 3 PutIn 40 140) 0 0
          ∷ call (begin 4 PutIn 50 150) 0 0
          ∷ call (begin 5 PutIn 60 160) 0 0
          ∷ call (begin 6 PutIn 70 170) 0 0
          ∷ call (begin 7 PutIn 80 180) 0 0
          ∷ call (step 0 3) 0 0
          ∷ call (step 1 3) 0 0
          ∷ call (step 2 3) 0 0
          ∷ call (step 3 3) 0 0
          ∷ call (step 4 3) 0 0
          ∷ call (step 5 3) 0 0
          ∷ call (step 6 3) 0 0
          ∷ call (step 7 3) 0 0
          ∷ call (step 3 1) 3 0
          ∷ call (step 0 1) 0 0
          ∷ call (step 1 1) 0 0
          ∷ call (step 2 1) 0 0
          ∷ call (step 4 1) 0 0
          ∷ call (step 5 1) 0 0
          ∷ call (step 6 1) 0 0
          ∷ call (step 7 1) 0 0
          ∷ [];
      after =
          left (record {
            used = 5;
            root = 40 ∷ 0 ∷ [];
            settled = [];
            busy = 0 ∷ 1 ∷ 2 ∷ 4 ∷ 5 ∷ 6 ∷ 7 ∷ [];
            fares = 0 ∷ 40 ∷ 140 ∷ [];
            figures = 0 ∷ 0 ∷ 0 ∷ 0 ∷ 1 ∷ 1 ∷ 35 ∷ 0 ∷ [];
            table =
                rec 1 4294967295 0 255 2 0
                ∷ rec 2 4294967295 0 255 0 0
                ∷ rec 1 4294967295 0 255 3 4
                ∷ rec 1 40 140 0 0 0
                ∷ rec 1 4294967295 0 255 0 0
                ∷ [];
          });
    }
    -- 527: they all arrive at 40, and again one commits
    ∷ record {
      start = onward;
      lines =
          call (step 0 4) 0 0
          ∷ call (step 1 4) 0 0
          ∷ call (step 2 4) 0 0
          ∷ call (step 4 4) 0 0
          ∷ call (step 5 4) 0 0
          ∷ call (step 6 4) 0 0
          ∷ call (step 7 4) 0 0
          ∷ call (step 7 1) 3 0
          ∷ call (step 6 1) 0 0
          ∷ call (step 5 1) 0 0
          ∷ call (step 4 1) 0 0
          ∷ call (step 2 1) 0 0
          ∷ call (step 1 1) 0 0
          ∷ call (step 0 1) 0 0
          ∷ [];
      after =
          left (record {
            used = 8;
            root = 80 ∷ 1 ∷ [];
            settled = [];
            busy = 0 ∷ 1 ∷ 2 ∷ 4 ∷ 5 ∷ 6 ∷ [];
            fares = 0 ∷ 40 ∷ 140 ∷ 80 ∷ 180 ∷ [];
            figures = 0 ∷ 1 ∷ 0 ∷ 0 ∷ 2 ∷ 2 ∷ 32 ∷ 1 ∷ [];
            table =
                rec 1 4294967295 0 255 2 0
                ∷ rec 2 4294967295 0 255 0 0
                ∷ rec 1 4294967295 0 255 5 4
                ∷ rec 2 40 140 0 0 0
                ∷ rec 1 4294967295 0 255 0 0
                ∷ rec 1 80 0 1 6 7
                ∷ rec 1 40 140 0 0 0
                ∷ rec 1 80 180 0 0 0
                ∷ [];
          });
    }
    -- 528: four of them commit before any settles: a level chain of rank 1
    ∷ record {
      start = onward;
      lines =
          call (step 0 6) 0 0
          ∷ call (step 4 7) 0 0
          ∷ call (step 1 7) 0 0
          ∷ call (step 5 8) 0 0
          ∷ [];
      after =
          left (record {
            used = 20;
            root = 80 ∷ 1 ∷ [];
            settled = [];
            busy = 0 ∷ 1 ∷ 2 ∷ 4 ∷ 5 ∷ 6 ∷ [];
            fares = 0 ∷ 10 ∷ 110 ∷ 20 ∷ 120 ∷ 40 ∷ 140 ∷ 50 ∷ 150 ∷ 60 ∷ 160 ∷ 80 ∷ 180 ∷ [];
            figures = 0 ∷ 4 ∷ 4 ∷ 4 ∷ 6 ∷ 6 ∷ 20 ∷ 3 ∷ [];
            table =
                rec 1 4294967295 0 255 2 0
                ∷ rec 2 4294967295 0 255 0 0
                ∷ rec 1 4294967295 0 255 5 4
                ∷ rec 2 40 140 0 0 0
                ∷ rec 1 4294967295 0 255 0 0
                ∷ rec 1 80 0 1 8 7
                ∷ rec 2 40 140 0 0 0
                ∷ rec 1 80 180 0 0 0
                ∷ rec 1 40 0 1 14 11
                ∷ rec 2 10 110 0 0 0
                ∷ rec 2 40 140 0 0 0
                ∷ rec 1 50 0 1 12 17
                ∷ rec 1 40 140 0 0 0
                ∷ rec 2 50 150 0 0 0
                ∷ rec 1 20 0 1 15 16
                ∷ rec 1 10 110 0 0 0
                ∷ rec 1 20 120 0 0 0
                ∷ rec 1 60 0 1 18 19
                ∷ rec 1 50 150 0 0 0
                ∷ rec 1 60 160 0 0 0
                ∷ [];
          });
    }
    -- 529: one of them settles all that lies on its way
    ∷ record {
      start = onward;
      lines =
          call (step 1 24) 3 0
          ∷ [];
      after =
          left (record {
            used = 24;
            root = 40 ∷ 3 ∷ [];
            settled = 20 ∷ 10 ∷ 40 ∷ [];
            busy = 0 ∷ 2 ∷ 4 ∷ 5 ∷ 6 ∷ [];
            fares = 0 ∷ 10 ∷ 110 ∷ 20 ∷ 120 ∷ 40 ∷ 140 ∷ 50 ∷ 150 ∷ 60 ∷ 160 ∷ 80 ∷ 180 ∷ [];
            figures = 0 ∷ 4 ∷ 1 ∷ 3 ∷ 6 ∷ 6 ∷ 16 ∷ 3 ∷ [];
            table =
                rec 1 4294967295 0 255 2 0
                ∷ rec 2 4294967295 0 255 0 0
                ∷ rec 1 4294967295 0 255 22 4
                ∷ rec 2 40 140 0 0 0
                ∷ rec 1 4294967295 0 255 0 0
                ∷ rec 2 80 0 1 8 7
                ∷ rec 2 40 140 0 0 0
                ∷ rec 1 80 180 0 0 0
                ∷ rec 2 40 0 1 14 11
                ∷ rec 2 10 110 0 0 0
                ∷ rec 2 40 140 0 0 0
                ∷ rec 1 50 0 1 12 17
                ∷ rec 1 40 140 0 0 0
                ∷ rec 2 50 150 0 0 0
                ∷ rec 1 20 0 1 15 16
                ∷ rec 1 10 110 0 0 0
                ∷ rec 1 20 120 0 0 0
                ∷ rec 1 60 0 1 18 19
                ∷ rec 1 50 150 0 0 0
                ∷ rec 1 60 160 0 0 0
                ∷ rec 2 80 0 2 21 7
                ∷ rec 2 40 0 2 14 11
                ∷ rec 1 40 0 3 14 23
                ∷ rec 1 80 0 2 11 7
                ∷ [];
          });
    }
    -- 530: the three others find what is left
    ∷ record {
      start = onward;
      lines =
          call (step 0 4) 3 0
          ∷ call (step 4 22) 3 0
          ∷ call (step 5 5) 3 0
          ∷ [];
      after =
          left (record {
            used = 28;
            root = 40 ∷ 3 ∷ [];
            settled = 21 ∷ 50 ∷ [];
            busy = 2 ∷ 6 ∷ [];
            fares = 0 ∷ 10 ∷ 110 ∷ 20 ∷ 120 ∷ 40 ∷ 140 ∷ 50 ∷ 150 ∷ 60 ∷ 160 ∷ 80 ∷ 180 ∷ [];
            figures = 0 ∷ 3 ∷ 0 ∷ 0 ∷ 6 ∷ 6 ∷ 12 ∷ 3 ∷ [];
            table =
                rec 1 4294967295 0 255 2 0
                ∷ rec 2 4294967295 0 255 0 0
                ∷ rec 1 4294967295 0 255 22 4
                ∷ rec 2 40 140 0 0 0
                ∷ rec 1 4294967295 0 255 0 0
                ∷ rec 2 80 0 1 8 7
                ∷ rec 2 40 140 0 0 0
                ∷ rec 1 80 180 0 0 0
                ∷ rec 2 40 0 1 14 11
                ∷ rec 2 10 110 0 0 0
                ∷ rec 2 40 140 0 0 0
                ∷ rec 2 50 0 1 12 17
                ∷ rec 1 40 140 0 0 0
                ∷ rec 2 50 150 0 0 0
                ∷ rec 1 20 0 1 15 16
                ∷ rec 1 10 110 0 0 0
                ∷ rec 1 20 120 0 0 0
                ∷ rec 2 60 0 1 18 19
                ∷ rec 1 50 150 0 0 0
                ∷ rec 1 60 160 0 0 0
                ∷ rec 2 80 0 2 21 7
                ∷ rec 2 40 0 2 14 11
                ∷ rec 1 40 0 3 14 25
                ∷ rec 2 80 0 2 24 7
                ∷ rec 2 50 0 2 12 17
                ∷ rec 1 60 0 2 26 27
                ∷ rec 1 50 0 1 12 18
                ∷ rec 1 80 0 1 19 7
                ∷ [];
          });
    }
    -- 531: and the last two put in and settle
    ∷ record {
      start = onward;
      lines =
          call (step 2 19) 3 0
          ∷ call (step 6 35) 3 0
          ∷ [];
      after =
          left (record {
            used = 38;
            root = 40 ∷ 4 ∷ [];
            settled = 21 ∷ 20 ∷ 21 ∷ 21 ∷ [];
            busy = [];
            fares = 0 ∷ 10 ∷ 110 ∷ 20 ∷ 120 ∷ 30 ∷ 130 ∷ 40 ∷ 140 ∷ 50 ∷ 150 ∷ 60 ∷ 160 ∷ 70 ∷ 170 ∷ 80 ∷ 180 ∷ [];
            figures = 0 ∷ 4 ∷ 0 ∷ 0 ∷ 8 ∷ 8 ∷ 2 ∷ 4 ∷ [];
            table =
                rec 1 4294967295 0 255 2 0
                ∷ rec 2 4294967295 0 255 0 0
                ∷ rec 1 4294967295 0 255 37 4
                ∷ rec 2 40 140 0 0 0
                ∷ rec 1 4294967295 0 255 0 0
                ∷ rec 2 80 0 1 8 7
                ∷ rec 2 40 140 0 0 0
                ∷ rec 1 80 180 0 0 0
                ∷ rec 2 40 0 1 14 11
                ∷ rec 2 10 110 0 0 0
                ∷ rec 2 40 140 0 0 0
                ∷ rec 2 50 0 1 12 17
                ∷ rec 1 40 140 0 0 0
                ∷ rec 2 50 150 0 0 0
                ∷ rec 2 20 0 1 15 28
                ∷ rec 1 10 110 0 0 0
                ∷ rec 2 20 120 0 0 0
                ∷ rec 2 60 0 1 18 19
                ∷ rec 1 50 150 0 0 0
                ∷ rec 2 60 160 0 0 0
                ∷ rec 2 80 0 2 21 7
                ∷ rec 2 40 0 2 14 11
                ∷ rec 2 40 0 3 31 36
                ∷ rec 2 80 0 2 24 7
                ∷ rec 2 50 0 2 12 17
                ∷ rec 2 60 0 2 26 35
                ∷ rec 1 50 0 1 12 18
                ∷ rec 2 80 0 1 32 7
                ∷ rec 1 30 0 1 29 30
                ∷ rec 1 20 120 0 0 0
                ∷ rec 1 30 130 0 0 0
                ∷ rec 1 20 0 2 15 28
                ∷ rec 1 70 0 1 33 34
                ∷ rec 1 60 160 0 0 0
                ∷ rec 1 70 170 0 0 0
                ∷ rec 1 80 0 2 32 7
                ∷ rec 1 60 0 3 26 35
                ∷ rec 1 40 0 4 31 36
                ∷ [];
          });
    }
    -- 532: a leaf in state 2 at the commit of a put-in fails the test, though its parent is as noted
    ∷ record {
      start = anew 16;
      lines =
          call (begin 0 PutIn 10 1) 0 0
          ∷ call (step 0 4) 3 0
          ∷ call (begin 1 PutIn 20 2) 0 0
          ∷ call (step 1 4) 0 0
          ∷ damage (field 3 0 2)
          ∷ call (step 1 1) 0 0
          ∷ [];
      after =
          left (record {
            used = 5;
            root = 10 ∷ 0 ∷ [];
            settled = [];
            busy = 1 ∷ [];
            fares = 17 ∷ [];
            figures = 17 ∷ 0 ∷ 0 ∷ 0 ∷ 0 ∷ 0 ∷ 0 ∷ 0 ∷ [];
            table =
                rec 1 4294967295 0 255 2 0
                ∷ rec 2 4294967295 0 255 0 0
                ∷ rec 1 4294967295 0 255 3 4
                ∷ rec 2 10 1 0 0 0
                ∷ rec 1 4294967295 0 255 0 0
                ∷ [];
          });
    }
    -- 533: the walk started again: with the leaf back it takes all five steps
    ∷ record {
      start = onward;
      lines =
          damage (field 3 0 1)
          ∷ call (step 1 5) 3 0
          ∷ [];
      after =
          left (record {
            used = 8;
            root = 20 ∷ 1 ∷ [];
            settled = [];
            busy = [];
            fares = 0 ∷ 10 ∷ 1 ∷ 20 ∷ 2 ∷ [];
            figures = 0 ∷ 1 ∷ 0 ∷ 0 ∷ 2 ∷ 2 ∷ 8 ∷ 1 ∷ [];
            table =
                rec 1 4294967295 0 255 2 0
                ∷ rec 2 4294967295 0 255 0 0
                ∷ rec 1 4294967295 0 255 5 4
                ∷ rec 2 10 1 0 0 0
                ∷ rec 1 4294967295 0 255 0 0
                ∷ rec 1 20 0 1 6 7
                ∷ rec 1 10 1 0 0 0
                ∷ rec 1 20 2 0 0 0
                ∷ [];
          });
    }
    ∷ []
