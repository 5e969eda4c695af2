-- What each call changes, on every history.
use Prim.Native.Nat.{ℕ}
use lib.ListN.{length}
use mathlib.Core.Bool.{Bool, false, true}
use mathlib.Core.List.{List}
use mathlib.Core.Logic.{◌⊎◌, inl, inr}
use mathlib.Core.Path.{◌∙◌, ◌≡◌, ap, refl, subst, sym}
use native.Mathlib.Omega.{arith}
use Rattle.commits.proofs.Acts.{Act, Kind, proper}
use Rattle.demand2.proofs.Fresh.{at_entry, at_leaf_lem, elsewhere, reset-is}
use Rattle.demand2.proofs.Seen.{reach-is, the_seen}
use Rattle.demand2.proofs.Carried.{after-long}
use Rattle.demand2.proofs.Lengths.{slots-of}
use Rattle.demand2.proofs.Passes.{Passes, abandons, begins, looks, passing, refused, resets, steps, tidies, view_at}
use Rattle.demand2.proofs.Stands.{Stands, fits-is, slots-is, sound-is}
use Rattle.fares.proofs.Tidied.{swept}
use Rattle.grounds.specs.Ways.{link_on}
use Rattle.history.specs.History.{Ask, abandon, begin, figures, left, list, reset, step, tidy}
use Rattle.history.specs.Ledger.{Account, Point, advance}
use Rattle.history.specs.Machine.{real}
use Rattle.terms.specs.Answers.{number_of}
use Rattle.machine.specs.Calls.{tidy_of, tidy_reached}
use Rattle.machine.specs.Choice.{if_b}
use Rattle.machine.specs.Commit.{Did}
use Rattle.machine.specs.State.{busy_tasks}
use Rattle.machine.specs.Step.{Left}
use Rattle.machine.specs.Table.{View, Write, puts, view}
use Rattle.routes.proofs.Kept.{Fate, alike, frozen, one-or_off, relinked, stays_used, taken, unused}
use Rattle.steps.specs.Does.{Does, put-commits, rests, settle-commits, take-commits}
use Rattle.structure.specs.Built.{view_of}
use Rattle.structure.specs.Changes.{Anew, FreedBy, Frees, OneCall, SameLabels, Tidied, Writes}
use Rattle.terms.specs.declared.Answer.TheVariants.{Accepted}
use Rattle.terms.specs.declared.Job.{Job}
use Rattle.terms.specs.declared.Phase.{Phase}
use Rattle.terms.specs.declared.Rec.{Rec}
use Rattle.trees.specs.Tree.{Tree}
use Rattle.views.proofs.Law.{view-law}
use Rattle.views.specs.Update.{Within, taken_off, upds, with_link}

-- ---- from what a commit does to each record

module _ {v w : View} (fate : (x : ℕ) → Fate v (v x) (w x)) where
  used_on : (x : ℕ) → ((v x).state ≡ 0 → ⊥) → (w x).state ≡ 0 → ⊥
  used_on x n = (stays_used (fate x) n).1

  stays_or_off : (x : ℕ) → (v x).state ≡ 1 → ((w x).state ≡ 1) ⊎ ((w x).state ≡ 2)
  stays_or_off x one = elim (one-or_off (fate x) one) [ inl e ↦ inl e | inr e ↦ inr (ap (λ r. r.state) e) ]

  labels_on : (x : ℕ) → ((v x).state ≡ 0 → ⊥) → SameLabels (v x) (w x)
  labels_on x n = go (fate x)
    where
      other : (b : Bool) (a : ℕ) → SameLabels (v x) (with_link b a (v x))
      other true a = record { number = refl; price = refl; rank = refl }
      other false a = record { number = refl; price = refl; rank = refl }

      go : Fate v (v x) (w x) → SameLabels (v x) (w x)
      go (unused z f) = absurd (n z)
      go (alike e) = rw e (record { number = refl; price = refl; rank = refl })
      go (taken o e) = rw e (record { number = refl; price = refl; rank = refl })
      go (relinked o b a z nz had e) = subst (SameLabels (v x)) (sym e) (other b a)

  links-on : (x : ℕ) (side : Bool) → (v x).state ≡ 1 → (link_on side (w x) ≡ link_on side (v x)) ⊎ ((v (link_on side (w x))).state ≡ 0)
  links-on x side one = go (fate x)
    where
      off-link : (d : Bool) (r : Rec) → link_on d (taken_off r) ≡ link_on d r
      off-link true r = refl
      off-link false r = refl

      new_link : (d b : Bool) (a : ℕ) (r : Rec) → (v a).state ≡ 0 → (link_on d (with_link b a r) ≡ link_on d r) ⊎ ((v (link_on d (with_link b a r))).state ≡ 0)
      new_link true true a r z = inr z
      new_link true false a r z = inl refl
      new_link false true a r z = inl refl
      new_link false false a r z = inr z

      go : Fate v (v x) (w x) → (link_on side (w x) ≡ link_on side (v x)) ⊎ ((v (link_on side (w x))).state ≡ 0)
      go (unused z f) = absurd (omega arith)
      go (alike e) = inl (ap (link_on side) e)
      go (taken o e) = inl (ap (link_on side) e ∙ off-link side (v x))
      go (relinked o b a z nz had e) = subst (λ r. (link_on side r ≡ link_on side (v x)) ⊎ ((v (link_on side r)).state ≡ 0)) (sym e) (new_link side b a (v x) z)

  state-only : (x : ℕ) → (v x).state ≡ 1 → (w x).state ≡ 2 → w x ≡ taken_off (v x)
  state-only x one two = elim (one-or_off (fate x) one) [ inl e ↦ absurd (omega arith) | inr e ↦ e ]

  born_on : (x : ℕ) → (v x).state ≡ 0 → (w x ≡ v x) ⊎ ((w x).state ≡ 1)
  born_on x z = go (fate x)
    where
      go : Fate v (v x) (w x) → (w x ≡ v x) ⊎ ((w x).state ≡ 1)
      go (unused y f) = inr f
      go (alike e) = inl e
      go (taken o e) = absurd (omega arith)
      go (relinked o b a y nz had e) = absurd (omega arith)

  fates_call : OneCall v w
  fates_call = record {
    grows = record { used = used_on; frozen = λ x e. frozen (fate x) e; one-or_two = stays_or_off; labels = labels_on; fresh-links = links-on };
    only_state = state-only;
    born = born_on;
  }

-- ---- each call

-- the view of the next point
pub next-view : {p : Point} (s : Stands p) (c : Ask) → view_of (advance real p c) ≡ view s.n (left real p.table p.state c).table
unfolding advance
next-view {p} s c =
    ap (λ n. view n (left real p.table p.state c).table) (slots-of (length (left real p.table p.state c).table) s.n (after-long s (passing s c).passes))

pub this_view : {p : Point} (s : Stands p) → view_of p ≡ view_at s
this_view {p} s = ap (λ n. view n p.table) (slots-is s)

module _ {p : Point} (s : Stands p) where
  act_fate : (ws : List Write) → Within s.n ws → {kind : Kind} {t' : Tree} → Act (view_at s) kind s.tree (upds (view_at s) ws) t'
      → (x : ℕ) → Fate (view_at s) (view_at s x) (view s.n (puts p.table ws) x)
  act_fate ws h act x =
      subst (λ w. Fate (view_at s) (view_at s x) (w x)) (sym (view-law s.n p.table ws s.size h)) ((proper act s.carries s.shape).surgery.fate x)

  pub step-fate : {j : Job} {f : Phase} {d : Did} (does : Does (view_at s) s.tree p.state.m j f d) → Within s.n d.writes
      → (x : ℕ) → Fate (view_at s) (view_at s x) (view s.n (puts p.table d.writes) x)
  unfolding puts
  step-fate (rests y q) h x = alike refl
  step-fate (put-commits b ws lim g ch) h x = act_fate ws h ch.act x
  step-fate (take-commits ws g ch) h x = act_fate ws h ch.act x
  step-fate (settle-commits ws g ch) h x = act_fate ws h ch.act x

  call_fate : {c : Ask} {l : Left} {a : Account} {t' : Tree} → Passes s c l a t' → (FreedBy c l → ⊥) → (x : ℕ) → Fate (view_at s) (view_at s x) (view s.n l.table x)
  call_fate (refused y h) keep x = alike refl
  call_fate (looks y h) keep x = alike refl
  call_fate resets keep x = absurd (keep refl)
  call_fate (begins i o j lt idle f) keep x = alike refl
  call_fate (steps i j f d lt at e h does b) keep x = step-fate does h x
  call_fate (abandons i du y lt b e h) keep x = alike refl
  call_fate (tidies e) keep x = absurd (keep refl)

  -- a call that is no accepted reset or tidy
  pub one-call_at : (c : Ask) → (Frees p c → ⊥) → OneCall (view_of p) (view_of (advance real p c))
  one-call_at c keep =
      subst (λ v. OneCall v (view_of (advance real p c))) (sym (this_view s))
      (subst (OneCall (view_at s)) (sym (next-view s c)) (fates_call (call_fate (passing s c).passes keep)))

  -- an accepted tidy
  tidied-passes : {c : Ask} {l : Left} {a : Account} {t' : Tree} → Passes s c l a t' → c ≡ tidy → l.answer ≡ Accepted → Tidied (view_at s) (view s.n l.table)
  tidied-passes (refused y h) c e = absurd (omega (arith, ap number_of e))
  tidied-passes (looks {c = figures} y h) c e = absurd (let z : ◌≡◌ {A = ℕ} 0 1 = cc in omega arith)
  tidied-passes (looks {c = list room} y h) c e = absurd (let z : ◌≡◌ {A = ℕ} 0 1 = cc in omega arith)
  tidied-passes {c = reset} (looks y h) c e = elim h [ ]
  tidied-passes {c = begin _ _ _} (looks y h) c e = elim h [ ]
  tidied-passes {c = step _} (looks y h) c e = elim h [ ]
  tidied-passes {c = abandon _} (looks y h) c e = elim h [ ]
  tidied-passes {c = tidy} (looks y h) c e = elim h [ ]
  tidied-passes resets c e = absurd (let z : ◌≡◌ {A = ℕ} 0 1 = cc in omega arith)
  tidied-passes (begins i o j lt idle f) c e = absurd (let z : ◌≡◌ {A = ℕ} 0 1 = cc in omega arith)
  tidied-passes (steps i j f d lt at q h does b) c e = absurd (let z : ◌≡◌ {A = ℕ} 0 1 = cc in omega arith)
  tidied-passes (abandons i du y lt b q h) c e = absurd (let z : ◌≡◌ {A = ℕ} 0 1 = cc in omega arith)
  tidied-passes (tidies q) c e =
      let w = swept s.n p.table s.tree (the_seen s) s.size in
      record { stays = w.stays; freed = w.freed }

  -- it is accepted where all tasks are idle, and there only
  pub tidy-when : busy_tasks p.state.tasks 8 ≡ 0 → Frees p tidy
  unfolding tidy_of tidy_reached if_b
  tidy-when e = rw (fits-is s, e, sound-is s, reach-is s) refl

  only_idle : {c : Ask} {l : Left} {a : Account} {t' : Tree} → Passes s c l a t' → c ≡ tidy → l.answer ≡ Accepted → busy_tasks p.state.tasks 8 ≡ 0
  only_idle (refused y h) c e = absurd (omega (arith, ap number_of e))
  only_idle (looks {c = figures} y h) c e = absurd (let z : ◌≡◌ {A = ℕ} 0 1 = cc in omega arith)
  only_idle (looks {c = list room} y h) c e = absurd (let z : ◌≡◌ {A = ℕ} 0 1 = cc in omega arith)
  only_idle {c = reset} (looks y h) c e = elim h [ ]
  only_idle {c = begin _ _ _} (looks y h) c e = elim h [ ]
  only_idle {c = step _} (looks y h) c e = elim h [ ]
  only_idle {c = abandon _} (looks y h) c e = elim h [ ]
  only_idle {c = tidy} (looks y h) c e = elim h [ ]
  only_idle resets c e = absurd (let z : ◌≡◌ {A = ℕ} 0 1 = cc in omega arith)
  only_idle (begins i o j lt idle f) c e = absurd (let z : ◌≡◌ {A = ℕ} 0 1 = cc in omega arith)
  only_idle (steps i j f d lt at q h does b) c e = absurd (let z : ◌≡◌ {A = ℕ} 0 1 = cc in omega arith)
  only_idle (abandons i du y lt b q h) c e = absurd (let z : ◌≡◌ {A = ℕ} 0 1 = cc in omega arith)
  only_idle (tidies q) c e = q

  pub tidy-only : Frees p tidy → busy_tasks p.state.tasks 8 ≡ 0
  tidy-only f = only_idle (passing s tidy).passes refl f

  pub tidied-at : Frees p tidy → Tidied (view_of p) (view_of (advance real p tidy))
  tidied-at ok =
      subst (λ v. Tidied v (view_of (advance real p tidy))) (sym (this_view s))
      (subst (Tidied (view_at s)) (sym (next-view s tidy)) (tidied-passes (passing s tidy).passes refl ok))

  -- a reset
  pub anew_at : Anew (view_of (advance real p reset))
  anew_at =
      subst Anew (sym (next-view s reset ∙ ap (λ (l : Left). view s.n l.table) (reset-is p.table p.state (fits-is s))))
      (record {
        entry = at_entry (length p.table) s.n s.size s.least s.most;
        leaf = at_leaf_lem (length p.table) s.n s.size s.least s.most;
        others = elsewhere (length p.table) s.n s.size s.least s.most;
      })

  -- a call that does not write
  same-table : {c : Ask} {l : Left} {a : Account} {t' : Tree} → Passes s c l a t' → (Writes c → ⊥) → l.table ≡ p.table
  same-table (refused y h) keep = refl
  same-table (looks y h) keep = refl
  same-table resets keep = absurd (keep tt)
  same-table (begins i o j lt idle f) keep = refl
  same-table (steps i j f d lt at e h does b) keep = absurd (keep tt)
  same-table (abandons i du y lt b e h) keep = refl
  same-table (tidies e) keep = absurd (keep tt)

  pub no-writes_at : (c : Ask) → (Writes c → ⊥) → (advance real p c).table ≡ p.table
  unfolding advance
  no-writes_at c keep = same-table (passing s c).passes keep
