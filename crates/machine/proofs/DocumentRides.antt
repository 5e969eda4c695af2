-- The rides of second/rides/document.txt; made by second/to-proofs.
use mathlib.Core.List.{List, [], ◌∷◌}
use Rattle.terms.specs.declared.Operation.TheVariants.{LookUp, PutIn, TakeOut}
use Rattle.machine.proofs.Ride.{Ride, anew, onward, begin, step, abandon, tidy, figures, list, length_is, call, damage, same, left, rec}

unfoldable pub document_rides : List Ride
document_rides =
    -- 1: put in 10, empty table
    record {
      start = anew 32;
      lines =
          call (begin 0 PutIn 10 250) 0 0
          ∷ call (step 0 4) 3 0
          ∷ [];
      after =
          left (record {
            used = 5;
            root = 10 ∷ 0 ∷ [];
            settled = [];
            busy = [];
            fares = 0 ∷ 10 ∷ 250 ∷ [];
            figures = 0 ∷ 0 ∷ 0 ∷ 0 ∷ 1 ∷ 1 ∷ 27 ∷ 0 ∷ [];
            table =
                rec 1 4294967295 0 255 2 0
                ∷ rec 2 4294967295 0 255 0 0
                ∷ rec 1 4294967295 0 255 3 4
                ∷ rec 1 10 250 0 0 0
                ∷ rec 1 4294967295 0 255 0 0
                ∷ [];
          });
    }
    -- 2: then 20, 5 steps
    ∷ record {
      start = onward;
      lines =
          call (begin 0 PutIn 20 300) 0 0
          ∷ call (step 0 5) 3 0
          ∷ [];
      after =
          left (record {
            used = 8;
            root = 20 ∷ 1 ∷ [];
            settled = [];
            busy = [];
            fares = 0 ∷ 10 ∷ 250 ∷ 20 ∷ 300 ∷ [];
            figures = 0 ∷ 1 ∷ 0 ∷ 0 ∷ 2 ∷ 2 ∷ 24 ∷ 1 ∷ [];
            table =
                rec 1 4294967295 0 255 2 0
                ∷ rec 2 4294967295 0 255 0 0
                ∷ rec 1 4294967295 0 255 5 4
                ∷ rec 2 10 250 0 0 0
                ∷ rec 1 4294967295 0 255 0 0
                ∷ rec 1 20 0 1 6 7
                ∷ rec 1 10 250 0 0 0
                ∷ rec 1 20 300 0 0 0
                ∷ [];
          });
    }
    -- 3: then 30, 16 steps, one promote, root rank 2
    ∷ record {
      start = onward;
      lines =
          call (begin 0 PutIn 30 350) 0 0
          ∷ call (step 0 16) 3 0
          ∷ [];
      after =
          left (record {
            used = 12;
            root = 20 ∷ 2 ∷ [];
            settled = 21 ∷ [];
            busy = [];
            fares = 0 ∷ 10 ∷ 250 ∷ 20 ∷ 300 ∷ 30 ∷ 350 ∷ [];
            figures = 0 ∷ 2 ∷ 0 ∷ 0 ∷ 3 ∷ 3 ∷ 20 ∷ 2 ∷ [];
            table =
                rec 1 4294967295 0 255 2 0
                ∷ rec 2 4294967295 0 255 0 0
                ∷ rec 1 4294967295 0 255 11 4
                ∷ rec 2 10 250 0 0 0
                ∷ rec 1 4294967295 0 255 0 0
                ∷ rec 2 20 0 1 6 8
                ∷ rec 1 10 250 0 0 0
                ∷ rec 2 20 300 0 0 0
                ∷ rec 1 30 0 1 9 10
                ∷ rec 1 20 300 0 0 0
                ∷ rec 1 30 350 0 0 0
                ∷ rec 1 20 0 2 6 8
                ∷ [];
          });
    }
    -- 4: then 40, 25 steps, a promote and a rotate case 1
    ∷ record {
      start = onward;
      lines =
          call (begin 0 PutIn 40 400) 0 0
          ∷ call (step 0 25) 3 0
          ∷ [];
      after =
          left (record {
            used = 18;
            root = 30 ∷ 2 ∷ [];
            settled = 21 ∷ 31 ∷ [];
            busy = [];
            fares = 0 ∷ 10 ∷ 250 ∷ 20 ∷ 300 ∷ 30 ∷ 350 ∷ 40 ∷ 400 ∷ [];
            figures = 0 ∷ 2 ∷ 0 ∷ 0 ∷ 4 ∷ 4 ∷ 14 ∷ 3 ∷ [];
            table =
                rec 1 4294967295 0 255 2 0
                ∷ rec 2 4294967295 0 255 0 0
                ∷ rec 1 4294967295 0 255 16 4
                ∷ rec 2 10 250 0 0 0
                ∷ rec 1 4294967295 0 255 0 0
                ∷ rec 2 20 0 1 6 8
                ∷ rec 1 10 250 0 0 0
                ∷ rec 2 20 300 0 0 0
                ∷ rec 2 30 0 1 9 12
                ∷ rec 1 20 300 0 0 0
                ∷ rec 2 30 350 0 0 0
                ∷ rec 2 20 0 2 6 15
                ∷ rec 1 40 0 1 13 14
                ∷ rec 1 30 350 0 0 0
                ∷ rec 1 40 400 0 0 0
                ∷ rec 2 30 0 2 9 12
                ∷ rec 1 30 0 2 17 12
                ∷ rec 1 20 0 1 6 9
                ∷ [];
          });
    }
    -- 5: then take out 40, 9 steps
    ∷ record {
      start = onward;
      lines =
          call (begin 0 TakeOut 40 0) 0 0
          ∷ call (step 0 9) 5 0
          ∷ [];
      after =
          left (record {
            used = 19;
            root = 30 ∷ 2 ∷ [];
            settled = [];
            busy = [];
            fares = 0 ∷ 10 ∷ 250 ∷ 20 ∷ 300 ∷ 30 ∷ 350 ∷ [];
            figures = 0 ∷ 2 ∷ 0 ∷ 0 ∷ 4 ∷ 3 ∷ 13 ∷ 3 ∷ [];
            table =
                rec 1 4294967295 0 255 2 0
                ∷ rec 2 4294967295 0 255 0 0
                ∷ rec 1 4294967295 0 255 16 4
                ∷ rec 2 10 250 0 0 0
                ∷ rec 1 4294967295 0 255 0 0
                ∷ rec 2 20 0 1 6 8
                ∷ rec 1 10 250 0 0 0
                ∷ rec 2 20 300 0 0 0
                ∷ rec 2 30 0 1 9 12
                ∷ rec 1 20 300 0 0 0
                ∷ rec 2 30 350 0 0 0
                ∷ rec 2 20 0 2 6 15
                ∷ rec 2 40 0 1 13 14
                ∷ rec 2 30 350 0 0 0
                ∷ rec 2 40 400 0 0 0
                ∷ rec 2 30 0 2 9 12
                ∷ rec 1 30 0 2 17 18
                ∷ rec 1 20 0 1 6 9
                ∷ rec 1 30 350 0 0 0
                ∷ [];
          });
    }
    -- 6: 10, 30, 20, 25 put in one after another, a double rotation
    ∷ record {
      start = anew 32;
      lines =
          call (begin 0 PutIn 10 110) 0 0
          ∷ call (step 0 4) 3 0
          ∷ call (begin 0 PutIn 30 130) 0 0
          ∷ call (step 0 5) 3 0
          ∷ call (begin 0 PutIn 20 120) 0 0
          ∷ call (step 0 16) 3 0
          ∷ call (begin 0 PutIn 25 125) 0 0
          ∷ call (step 0 26) 3 0
          ∷ [];
      after =
          left (record {
            used = 19;
            root = 25 ∷ 2 ∷ [];
            settled = 20 ∷ 21 ∷ 50 ∷ [];
            busy = [];
            fares = 0 ∷ 10 ∷ 110 ∷ 20 ∷ 120 ∷ 25 ∷ 125 ∷ 30 ∷ 130 ∷ [];
            figures = 0 ∷ 2 ∷ 0 ∷ 0 ∷ 4 ∷ 4 ∷ 13 ∷ 3 ∷ [];
            table =
                rec 1 4294967295 0 255 2 0
                ∷ rec 2 4294967295 0 255 0 0
                ∷ rec 1 4294967295 0 255 16 4
                ∷ rec 2 10 110 0 0 0
                ∷ rec 1 4294967295 0 255 0 0
                ∷ rec 2 30 0 1 8 7
                ∷ rec 2 10 110 0 0 0
                ∷ rec 1 30 130 0 0 0
                ∷ rec 2 20 0 1 9 12
                ∷ rec 1 10 110 0 0 0
                ∷ rec 2 20 120 0 0 0
                ∷ rec 2 30 0 2 15 7
                ∷ rec 2 25 0 1 13 14
                ∷ rec 1 20 120 0 0 0
                ∷ rec 1 25 125 0 0 0
                ∷ rec 2 20 0 2 9 12
                ∷ rec 1 25 0 2 17 18
                ∷ rec 1 20 0 1 9 13
                ∷ rec 1 30 0 1 14 7
                ∷ [];
          });
    }
    -- 7: 25 and 40 both committed before either settles, promote case 1, then rotate case 2
    ∷ record {
      start = anew 32;
      lines =
          call (begin 0 PutIn 10 110) 0 0
          ∷ call (step 0 4) 3 0
          ∷ call (begin 0 PutIn 20 120) 0 0
          ∷ call (step 0 5) 3 0
          ∷ call (begin 0 PutIn 30 130) 0 0
          ∷ call (step 0 16) 3 0
          ∷ call (begin 1 PutIn 25 125) 0 0
          ∷ call (step 1 7) 0 0
          ∷ call (begin 2 PutIn 40 140) 0 0
          ∷ call (step 2 7) 0 0
          ∷ call (step 1 19) 3 0
          ∷ call (step 2 4) 3 0
          ∷ [];
      after =
          left (record {
            used = 21;
            root = 30 ∷ 3 ∷ [];
            settled = 21 ∷ 10 ∷ 41 ∷ [];
            busy = [];
            fares = 0 ∷ 10 ∷ 110 ∷ 20 ∷ 120 ∷ 25 ∷ 125 ∷ 30 ∷ 130 ∷ 40 ∷ 140 ∷ [];
            figures = 0 ∷ 3 ∷ 0 ∷ 0 ∷ 5 ∷ 5 ∷ 11 ∷ 3 ∷ [];
            table =
                rec 1 4294967295 0 255 2 0
                ∷ rec 2 4294967295 0 255 0 0
                ∷ rec 1 4294967295 0 255 19 4
                ∷ rec 2 10 110 0 0 0
                ∷ rec 1 4294967295 0 255 0 0
                ∷ rec 2 20 0 1 6 8
                ∷ rec 1 10 110 0 0 0
                ∷ rec 2 20 120 0 0 0
                ∷ rec 2 30 0 1 12 15
                ∷ rec 2 20 120 0 0 0
                ∷ rec 2 30 130 0 0 0
                ∷ rec 2 20 0 2 6 18
                ∷ rec 1 25 0 1 13 14
                ∷ rec 1 20 120 0 0 0
                ∷ rec 1 25 125 0 0 0
                ∷ rec 1 40 0 1 16 17
                ∷ rec 1 30 130 0 0 0
                ∷ rec 1 40 140 0 0 0
                ∷ rec 2 30 0 2 12 15
                ∷ rec 1 30 0 3 20 15
                ∷ rec 1 20 0 2 6 12
                ∷ [];
          });
    }
    -- 8: two tasks put in 10, the second one ends with 4 at its fourth step
    ∷ record {
      start = anew 32;
      lines =
          call (begin 0 PutIn 10 250) 0 0
          ∷ call (begin 1 PutIn 10 300) 0 0
          ∷ call (step 0 1) 0 0
          ∷ call (step 1 1) 0 0
          ∷ call (step 0 3) 3 0
          ∷ call (step 1 3) 4 0
          ∷ [];
      after =
          left (record {
            used = 5;
            root = 10 ∷ 0 ∷ [];
            settled = [];
            busy = [];
            fares = 0 ∷ 10 ∷ 250 ∷ [];
            figures = 0 ∷ 0 ∷ 0 ∷ 0 ∷ 1 ∷ 1 ∷ 27 ∷ 0 ∷ [];
            table =
                rec 1 4294967295 0 255 2 0
                ∷ rec 2 4294967295 0 255 0 0
                ∷ rec 1 4294967295 0 255 3 4
                ∷ rec 1 10 250 0 0 0
                ∷ rec 1 4294967295 0 255 0 0
                ∷ [];
          });
    }
    -- 9: eight slots, two put-ins fit, the third gets 15, and again after tidy
    ∷ record {
      start = anew 8;
      lines =
          call (begin 0 PutIn 10 110) 0 0
          ∷ call (step 0 4) 3 0
          ∷ call (begin 0 PutIn 20 120) 0 0
          ∷ call (step 0 5) 3 0
          ∷ call (begin 0 PutIn 30 130) 0 0
          ∷ call (step 0 6) 15 0
          ∷ call tidy 0 0
          ∷ call (begin 0 PutIn 30 130) 0 0
          ∷ call (step 0 6) 15 0
          ∷ [];
      after =
          left (record {
            used = 6;
            root = 20 ∷ 1 ∷ [];
            settled = [];
            busy = [];
            fares = 0 ∷ 10 ∷ 110 ∷ 20 ∷ 120 ∷ [];
            figures = 0 ∷ 1 ∷ 0 ∷ 0 ∷ 2 ∷ 2 ∷ 2 ∷ 1 ∷ [];
            table =
                rec 1 4294967295 0 255 2 0
                ∷ rec 0 0 0 0 0 0
                ∷ rec 1 4294967295 0 255 5 4
                ∷ rec 0 0 0 0 0 0
                ∷ rec 1 4294967295 0 255 0 0
                ∷ rec 1 20 0 1 6 7
                ∷ rec 1 10 110 0 0 0
                ∷ rec 1 20 120 0 0 0
                ∷ [];
          });
    }
    -- 10: number 999,999 and price 99,999 accepted, one more of either gives 11
    ∷ record {
      start = anew 32;
      lines =
          call (begin 0 PutIn 999999 99999) 0 0
          ∷ call (step 0 4) 3 0
          ∷ call (begin 1 LookUp 999999 0) 0 0
          ∷ call (step 1 2) 1 99999
          ∷ call (begin 2 PutIn 5 100000) 11 0
          ∷ call (begin 2 PutIn 1000000 5) 11 0
          ∷ [];
      after = same;
    }
    -- 11: a table of 47 numbers gives 18
    ∷ record {
      start = anew 8;
      lines =
          damage (length_is 47)
          ∷ call (begin 0 LookUp 10 0) 18 0
          ∷ call (begin 0 PutIn 10 250) 18 0
          ∷ call (begin 0 TakeOut 10 0) 18 0
          ∷ call (step 0 1) 18 0
          ∷ call (abandon 0) 18 0
          ∷ call tidy 18 0
          ∷ call (list 8) 18 0
          ∷ call figures 18 0
          ∷ [];
      after = same;
    }
    -- 12: the example call file
    ∷ record {
      start = anew 64;
      lines =
          call (begin 0 PutIn 10 250) 0 0
          ∷ call (step 0 4) 3 0
          ∷ call (begin 1 LookUp 10 0) 0 0
          ∷ call (step 1 2) 1 250
          ∷ call tidy 0 0
          ∷ [];
      after =
          left (record {
            used = 4;
            root = 10 ∷ 0 ∷ [];
            settled = [];
            busy = [];
            fares = 0 ∷ 10 ∷ 250 ∷ [];
            figures = 0 ∷ 0 ∷ 0 ∷ 0 ∷ 1 ∷ 1 ∷ 60 ∷ 0 ∷ [];
            table =
                rec 1 4294967295 0 255 2 0
                ∷ rec 0 0 0 0 0 0
                ∷ rec 1 4294967295 0 255 3 4
                ∷ rec 1 10 250 0 0 0
                ∷ rec 1 4294967295 0 255 0 0
                ∷ [];
          });
    }
    ∷ []
