-- What c bounds: the work left and the height.
use Prim.Native.Nat.{◌*◌, ◌+◌, ◌≤◌, ℕ}
use mathlib.Core.List.{List, [], ◌∷◌}
use mathlib.Core.Path.{◌∙◌, ◌≡◌, ap, refl, sym}
use native.Mathlib.Omega.{arith}
use Rattle.demand2.proofs.Stands.{Stands}
use Rattle.demand3.proofs.Demand3.{crowned, height-few, levels-few}
use Rattle.demand3.proofs.Heights.{plain-rank}
use Rattle.demand3.proofs.Open.{c_is}
use Rattle.demand3.proofs.Rich.{Rich}
use Rattle.demand3.specs.Demand3.{c_at}
use Rattle.history.specs.Ledger.{Fare, Point, given}
use Rattle.machine.specs.State.{count_open}
use Rattle.progress.proofs.Look.{empty_height, top_is}
use Rattle.progress.proofs.Work.{work-28}
use Rattle.progress.specs.Work.{work}
use Rattle.trees.specs.Rank.{height}

pub open_is : {p : Point} (s : Stands p) → count_open p.state ≡ c_at p
unfolding count_open
open_is s = c_is s

module _ {p : Point} (r : Rich p) where
  abbrev s : Stands p
  s = r.stands

  pub work-c : work 255 s.tree ≤ 28 * count_open p.state
  work-c = omega (arith, work-28 255 s.tree (omega arith) s.shape.marks, levels-few r, open_is s)

  -- no rank passes 28, and a link down costs a rank or a level record
  pub height-c : height s.tree ≤ 29 + count_open p.state
  height-c = go (given p.account.commits) refl
    where
      go : (fs : List Fare) → given p.account.commits ≡ fs → height s.tree ≤ 29 + count_open p.state
      go [] e = omega (arith, empty_height s.tree s.shape (top_is r) (s.held ∙ e))
      go (x ∷ xs) e =
          let held : given p.account.commits ≡ [] → ⊥ = λ z. (let w = sym e ∙ z in let y : ◌≡◌ {A = ℕ} 0 1 = cc in omega arith) in
          let k = crowned r held in
          omega (arith, ap height k.whole, height-few r held, plain-rank k.tree k.plain, levels-few r, open_is s)
