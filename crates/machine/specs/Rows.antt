-- SETTLING: the settling table, and the writes of each row. `side` is true where x is z's left child: both mirror forms are one text.
use Rattle.std.specs.Prelude.{ℕ, ◌+◌, ◌-◌, Bool, not, List, [], ◌∷◌, ltb, leb, eqb}
use Rattle.terms.specs.declared.Rec.{Rec}
use Rattle.terms.specs.declared.Links.{Links}
use Rattle.terms.specs.declared.Path.{Path}
use Rattle.terms.specs.declared.ParentRow.{ParentRow}
use Rattle.terms.specs.declared.ParentRow.TheVariants.{Outranked, Promote, Wider}
use Rattle.terms.specs.declared.LevelRow.{LevelRow}
use Rattle.terms.specs.declared.LevelRow.TheVariants.{NoRow, RotateOne, RotateTwo, DoubleRotation}
use Rattle.machine.specs.Choice.{if_b}
use Rattle.machine.specs.Record.{other}
use Rattle.machine.specs.Table.{Write, fill, lead, off}
use Rattle.terms.specs.declared.Around.{Around}
use Rattle.machine.specs.PutIn.{inner_of}

-- "z minus s is 0 or 1": promote; "at least 2": a rotation; 17: "s outranks z"
unfoldable pub parent_row : ℕ → ℕ → ParentRow
parent_row z s = if_b (ltb z s) Outranked (if_b (leb (z - s) 1) Promote Wider)

-- "x minus y at least 2"; "x minus y = 1, x minus w = 1"; "x minus y = 1, x minus w at least 2"; 17: "y or w outranks x", "no row .. fits"
unfoldable pub level_row : ℕ → ℕ → ℕ → LevelRow
level_row x y w =
    if_b (ltb x y) NoRow
    (if_b (ltb x w) NoRow
    (if_b (leb 2 (x - y)) RotateOne
    (if_b (eqb (x - y) 0) NoRow
    (if_b (eqb (x - w) 0) NoRow
    (if_b (eqb (x - w) 1) RotateTwo DoubleRotation)))))

-- an inner record that leads to `near` on x's side and to `far` on the other
unfoldable pub sided : Bool → ℕ → ℕ → ℕ → ℕ → Rec
sided side k rk near far = if_b side (inner_of k rk near far) (inner_of k rk far near)

-- the link on a side: true is left
unfoldable pub link_at : Bool → Links → ℕ
link_at side a = if_b side a.left a.right

-- "promote (case 1 or 2), 1 slot | z + 1": e tells where z hangs under pz, b are z's links
abbrev pub promote_writes : Path → Bool → Links → Rec → ℕ → List Write
promote_writes q e b z i =
    fill i (inner_of z.number (z.rank + 1) b.left b.right) ∷ off q.parent ∷ lead q.grand e i ∷ []

-- "Let s be z's other child, y the child of x on the side of s, w the other child of x.": by the noted links a of pz, b of z, c of x
unfoldable pub around_of : Path → Links → Links → Links → Around
around_of q a b c =
    record {
      high = eqb a.left q.parent;
      side = eqb b.left q.here;
      s = other b q.here;
      y = link_at (not (eqb b.left q.here)) c;
      w = link_at (eqb b.left q.here) c;
    }

-- "rotate, 2 slots": x on top with rank rx in slot i, z below it with rank rz in slot k
abbrev pub two_records : Path → Around → Rec → Rec → ℕ → ℕ → List Write
two_records q o top below i k = fill i top ∷ fill k below ∷ off q.parent ∷ off q.here ∷ lead q.grand o.high i ∷ []

-- "Rotations put x .. on top as usual"; "its fresh copy keeps the fare number"
unfoldable pub rotate_writes : Path → Around → Rec → Rec → ℕ → ℕ → ℕ → ℕ → List Write
rotate_writes q o z x rx rz i k =
    two_records q o (sided o.side x.number rx o.w k) (sided o.side z.number rz o.y o.s) i k

-- "double rotation, 3 slots | x − 1, y + 1, z − 1": y on top in slot i, its left child in slot k, its right one in slot l; d are y's links
abbrev pub double_x : Around → Links → Rec → Rec
double_x o d x = sided o.side x.number (x.rank - 1) o.w (link_at o.side d)

-- the new z of a double rotation
abbrev pub double_z : Around → Links → Rec → Rec
double_z o d z = sided o.side z.number (z.rank - 1) (link_at (not o.side) d) o.s

-- the writes of a double rotation: "Every record replaced is taken off"
abbrev pub seven_writes : Path → Around → Rec → Rec → Rec → ℕ → ℕ → ℕ → List Write
seven_writes q o top left right i k l =
    fill i top ∷ fill k left ∷ fill l right ∷ off q.parent ∷ off q.here ∷ off o.y ∷ lead q.grand o.high i ∷ []

-- "top first, then left, then right": x's copy stands on x's side
unfoldable pub double_writes : Path → Around → Links → Rec → Rec → Rec → ℕ → ℕ → ℕ → List Write
double_writes q o d z x y i k l =
    if_b o.side
    (seven_writes q o (inner_of y.number (y.rank + 1) k l) (double_x o d x) (double_z o d z) i k l)
    (seven_writes q o (inner_of y.number (y.rank + 1) k l) (double_z o d z) (double_x o d x) i k l)
