-- A sound state's counts are small.
use mathlib.Core.Path.{◌≡◌}
use mathlib.Core.Bool.{true}
use Prim.Native.Nat.{◌+◌, ◌≤◌}
use native.Mathlib.Omega.{arith}
use lib.Dec.{leb}
use borrow.Author.Tests.{leb-true}
use Rattle.terms.specs.declared.State.{State}
use Rattle.machine.specs.State.{settling, count_open, sound}
use Rattle.machine.proofs.Tests.{both_first, both-second}

module _ (st : State) (e : sound st ≡ true) where
  pub m_small : st.m ≤ 1000000
  unfolding sound
  m_small = leb-true _ _ (both_first (leb st.m 1000000) _ e)

  pub open_most : st.u + settling st.tasks 8 ≤ st.m
  unfolding sound count_open
  open_most = leb-true _ _ (both-second (leb st.m 1000000) _ e)

  pub u_small : st.u ≤ 1000000
  u_small = omega (arith, m_small, open_most)
