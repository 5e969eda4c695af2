-- HEIGHT: "links from the root record (the left child of the entry's left child) to the farthest fare below it".
use Rattle.std.specs.Prelude.{◌≤◌, ℕ, length, Bool, true, List, ◌≡◌}
use Rattle.machine.specs.Record.{is_fare}
use Rattle.machine.specs.Table.{View}
use Rattle.trees.specs.Ways.{Leads}

-- the root record's slot
abbrev pub root_of : View → ℕ
root_of v = (v (v 0).left).left

-- h is the longest way: every way of links from slot r down to a fare has at most h links, and one has just as many
pub record Longest (v : View) (r h : ℕ) : Type 0 where
  pub none-longer : (path : List Bool) (x : ℕ) → Leads v r path x → is_fare (v x) ≡ true → length path ≤ h
  pub path : List Bool
  pub fare : ℕ
  pub leads : Leads v r path fare
  pub is-fare : is_fare (v fare) ≡ true
  pub long : length path ≡ h
