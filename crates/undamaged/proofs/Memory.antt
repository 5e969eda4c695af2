-- What a task remembers is kept by every commit of any task.
use Prim.Native.Nat.{ℕ}
use mathlib.Core.Bool.{true}
use mathlib.Core.Logic.{inl, inr}
use mathlib.Core.Path.{◌∙◌, ◌≡◌, sym}
use native.Mathlib.Omega.{arith}
use Rattle.machine.specs.Record.{level, other, sentinel}
use Rattle.machine.specs.Rows.{around_of}
use Rattle.machine.specs.Table.{View}
use Rattle.routes.proofs.Surgery.{Surgery}
use Rattle.terms.specs.declared.Goal.TheVariants.{Serve, Settle}
use Rattle.terms.specs.declared.Links.{Links}
use Rattle.terms.specs.declared.Path.{Path}
use Rattle.terms.specs.declared.Phase.{Phase}
use Rattle.terms.specs.declared.Phase.TheVariants.{PuttingIn, Settling, Start, TakingOut, Walk}
use Rattle.terms.specs.declared.SettleStage.{SettleStage}
use Rattle.terms.specs.declared.SettleStage.TheVariants.{SettleChoose, SettleDouble, SettleGrand, SettleParent, SettleRotate}
use Rattle.terms.specs.declared.TakeStage.{TakeStage}
use Rattle.terms.specs.declared.TakeStage.TheVariants.{TakeCommit, TakeGrand, TakeLeft, TakeParent, TakeRight}
use Rattle.terms.specs.declared.Work.{Work}
use Rattle.terms.specs.declared.Work.TheVariants.{Busy, Idle}
use Rattle.trees.specs.Tree.{Tree}
use Rattle.undamaged.proofs.Records.{Same, fate_same, low-kept}
use Rattle.undamaged.specs.Memory.{Children, Chosen, InnerIs, LeafIs, Remembers, SettleNotes, Slope, TakeNotes, TaskRemembers, Turning, Way}
use Rattle.undamaged.specs.Records.{Used}
use Rattle.views.proofs.Law.{same_or}

module _ {v w : View} {t t' : Tree} {x y : ℕ} (g : Surgery v w t t' x y) (free : (v x).state ≡ 0) where
  like : (s : ℕ) → Used v s → Same (v s) (w s)
  like s u = fate_same (g.fate s) u

  used_kept : (s : ℕ) → Used v s → Used w s
  used_kept s u = (like s u).used

  leaf_kept : (s : ℕ) → LeafIs v s → LeafIs w s
  leaf_kept s h = let q = like s h.0 in let l = q.leaf h.1 h.2 in (q.used, l.0, l.1)

  inner-kept : (s : ℕ) → InnerIs v s → InnerIs w s
  inner-kept s h = let q = like s h.0 in (q.used, q.inner h.1)

  way_kept : (q : Path) → Way v q → Way w q
  way_kept q h = record {
    grand_in = elim h.grand_in [ inl e ↦ inl e | inr k ↦ inr (inner-kept q.grand k) ];
    parent_in = inner-kept q.parent h.parent_in;
    top-none = h.top-none;
    top_rank = λ e. (like q.here h.here-used).rank ∙ h.top_rank e;
    here-used = used_kept q.here h.here-used;
    here-pos = h.here-pos;
  }

  grand_used : (q : Path) → Way v q → (q.parent ≡ 0 → ⊥) → Used v q.grand
  grand_used q h nz = elim h.grand_in [ inl e ↦ absurd (nz (h.top-none e)) | inr k ↦ k.0 ]

  slope_kept : (q : Path) → Way v q → Slope v t q → Slope w t' q
  slope_kept q h s = record {
    upper = elim s.upper [
      | inl e ↦ inl e
      | inr le ↦ (elim (same_or q.parent 0) [
        | inl e ↦ inl e
        | inr nz ↦ inr (omega (arith, (like q.parent h.parent_in.0).rank, (like q.grand (grand_used q h nz)).rank))
      ])
    ];
    lower = omega (arith, s.lower, (like q.parent h.parent_in.0).rank, (like q.here h.here-used).rank);
    grand-low = elim s.grand-low [
      | inl e ↦ inl e
      | inr n ↦ (elim h.grand_in [ inl e ↦ inl e | inr k ↦ inr (low-kept g free q.grand k.0 n) ])
    ];
    parent-low = low-kept g free q.parent h.parent_in.0 s.parent-low;
  }

  children-kept : (q : Path) (a b : Links) → Children v q a b → Children w q a b
  children-kept q a b h = record {
    to-parent = h.to-parent;
    to-here = h.to-here;
    left-used = used_kept b.left h.left-used;
    right-used = used_kept b.right h.right-used;
    left-pos = h.left-pos;
    right-pos = h.right-pos;
    apart = h.apart;
  }

  chosen-kept : (q : Path) (a b : Links) → Chosen v q a b → Chosen w q a b
  chosen-kept q a b h = record { to-z = h.to-z; to-x = h.to-x; s_used = used_kept (other b q.here) h.s_used; s_pos = h.s_pos; z_x = h.z_x }

  turning-kept : (q : Path) (a b c : Links) → Turning v q a b c → Turning w q a b c
  turning-kept q a b c h = record {
    chosen = chosen-kept q a b h.chosen;
    y_used = used_kept (around_of q a b c).y h.y_used;
    y_pos = h.y_pos;
    w_used = used_kept (around_of q a b c).w h.w_used;
    w_pos = h.w_pos;
  }

  take_kept : (q : Path) (s : TakeStage) → TakeNotes v q s → TakeNotes w q s
  take_kept q TakeGrand h = tt
  take_kept q (TakeParent a) h = h
  take_kept q (TakeLeft a b) h = children-kept q a b h
  take_kept q (TakeRight a b c) h = children-kept q a b h
  take_kept q (TakeCommit a b c d) h = children-kept q a b h

  settle-kept : (q : Path) (s : SettleStage) → Used v q.here → SettleNotes v q s → SettleNotes w q s
  settle-kept q SettleGrand u h = tt
  settle-kept q (SettleParent a) u h = h
  settle-kept q (SettleChoose a b) u h = chosen-kept q a b h
  settle-kept q (SettleRotate a b c) u h = turning-kept q a b c h
  settle-kept q (SettleDouble a b c d) u h =
      (turning-kept q a b c h.0, omega (arith, h.1, (like q.here u).rank, (like (around_of q a b c).y h.0.y_used).rank))

  level-kept : (q : Path) → Used v q.parent → Used v q.here → level (v q.parent) (v q.here) ≡ true → level (w q.parent) (w q.here) ≡ true
  unfolding level sentinel
  level-kept q up uh e =
      let p = like q.parent up in
      let h = like q.here uh in
      rw (p.rank, h.rank, h.number, h.price) e

  remembers_kept : (k : ℕ) (f : Phase) → Remembers v t k f → Remembers w t' k f
  remembers_kept k (Start a) h = tt
  remembers_kept k (Walk (Serve o) q) h = (way_kept q h.0, inner-kept q.here h.1)
  remembers_kept k (Walk Settle q) h = (way_kept q h.0, inner-kept q.here h.1, slope_kept q h.0 h.2, low-kept g free q.here h.0.here-used h.3)
  remembers_kept k (PuttingIn q s) h =
      (way_kept q h.0, leaf_kept q.here h.1, (λ e. h.2 (sym (like q.here h.0.here-used).number ∙ e)), h.3)
  remembers_kept k (TakingOut q s) h = (way_kept q h.0, leaf_kept q.here h.1, (like q.here h.0.here-used).number ∙ h.2, take_kept q s h.3)
  remembers_kept k (Settling q s) h =
      (way_kept q h.0, slope_kept q h.0 h.1, level-kept q h.0.parent_in.0 h.0.here-used h.2, settle-kept q s h.0.here-used h.3)

  pub task_remembers : (a : Work) → TaskRemembers v t a → TaskRemembers w t' a
  task_remembers Idle h = tt
  task_remembers (Busy j f) h = remembers_kept j.number f h
