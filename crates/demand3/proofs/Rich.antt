-- WHAT ELSE HOLDS of where a history stands: level records have owners, the potential is at most 2m, a sentinel leaf is there. Every call keeps it.
use Prim.Native.Nat.{◌*◌, ◌+◌, ◌<◌, ◌≤◌, suc, ℕ}
use lib.Dec.{eqb}
use lib.ListN.{length, length-replicate, replicate, set}
use mathlib.Core.Bool.{Bool, false, true}
use mathlib.Core.List.{List, []}
use mathlib.Core.Path.{◌∙◌, ◌≡◌, ap, refl, subst, sym}
use native.Mathlib.Nat.{add-zero}
use native.Mathlib.Omega.{arith}
use Rattle.commits.proofs.Acts.{Act, Kind, Proper, doubles, level_put, promotes, proper, put_number, rotates1, rotates2, settles, takes, takes_out}
use Rattle.commits.proofs.Sight.{Changed, PutChanged}
use Rattle.demand2.proofs.Accounts.{Agree, not_six}
use Rattle.demand2.proofs.Counts.{all_alike}
use Rattle.demand2.proofs.Fresh.{fresh-carries}
use Rattle.demand2.proofs.Passes.{Passes, abandons, begins, looks, refused, resets, steps, tidies}
use Rattle.demand2.proofs.Seen.{all_idle, the_seen, tidied}
use Rattle.demand2.proofs.Stands.{Stands}
use Rattle.demand3.proofs.Crown.{act_sents, sents}
use Rattle.demand3.proofs.Roles.{cast_same, role, role_of, roles, roles-stored, serve-role, settle-role, walk_role}
use Rattle.fares.proofs.Tidied.{swept, swept-carries}
use Rattle.history.specs.History.{Ask}
use Rattle.history.specs.Ledger.{Account, Open, Point, begun, one_unsettled, open_at, opening, shut, unsettled}
use Rattle.terms.specs.Answers.{number_of}
use Rattle.machine.specs.Calls.{empty_table, sweep}
use Rattle.machine.specs.Choice.{if_b}
use Rattle.machine.specs.Commit.{Did}
use Rattle.machine.specs.Record.{top_number}
use Rattle.machine.specs.State.{busy_tasks, fresh_state, one, task_at}
use Rattle.machine.specs.Step.{Left, turned}
use Rattle.machine.specs.Table.{View, Write, puts, view}
use Rattle.owners.proofs.Events.{owners_commit, owners_end, owners_leave, owners_put, owners_read, owners_restart, owners_walk}
use Rattle.owners.specs.Owners.{Owner, Owners, Role, cast, other, settler, walking}
use Rattle.potential.proofs.Acts.{act_phi, pays}
use Rattle.potential.specs.Potential.{phi}
use Rattle.routes.proofs.Level.{lv-not_255, lvs-not}
use Rattle.routes.specs.Route.{Has, lv, route}
use Rattle.steps.specs.Does.{Does, Moves, Quiet, above_of, hurts, leaves, moves-on, put-commits, rests, settle-commits, settled, standing, stops, take-commits, turn_of_put}
use Rattle.steps.specs.Trail.{WorkOk}
use Rattle.terms.specs.Task.{busy, goal_of, idle_task}
use Rattle.terms.specs.declared.Goal.{Goal}
use Rattle.terms.specs.declared.Goal.TheVariants.{Serve, Settle}
use Rattle.terms.specs.declared.Job.{Job}
use Rattle.terms.specs.declared.Operation.{Operation}
use Rattle.terms.specs.declared.Operation.TheVariants.{PutIn, TakeOut}
use Rattle.terms.specs.declared.Phase.{Phase}
use Rattle.terms.specs.declared.Phase.TheVariants.{PuttingIn, Settling, Start, TakingOut, Walk}
use Rattle.terms.specs.declared.State.{State}
use Rattle.terms.specs.declared.Task.{Task}
use Rattle.terms.specs.declared.Turn.{Turn}
use Rattle.terms.specs.declared.Work.{Work}
use Rattle.terms.specs.declared.Work.TheVariants.{Busy, Idle}
use Rattle.trees.proofs.OneTree.{one-tree}
use Rattle.trees.proofs.Plug.{ind-same}
use Rattle.trees.specs.Tree.{Tree, ind, leaf}
use Rattle.views.proofs.Law.{length_law, view-law}
use Rattle.views.specs.Update.{Within, upds}
use Rattle.terms.specs.Task.{begun as taskBegun}

-- of the tree t that a table of n slots carries
pub record Extra (n : ℕ) (t : Tree) (p : Point) : Type 0 where
  pub size : length p.table ≡ n * 6
  pub owners : Owners 8 (view n p.table) t p.state.u (roles p.state)
  pub paid : phi t ≤ 2 * p.state.m
  pub sentinel-leaf : 1 ≤ sents t

pub record Rich (p : Point) : Type 0 where
  pub stands : Stands p
  pub n : ℕ
  pub tree : Tree
  pub extra : Extra n tree p

-- the tree is the one that the history stands on
pub extra_at : {p : Point} (r : Rich p) → Extra r.stands.n r.stands.tree p
extra_at {p} r =
    let en : r.n ≡ r.stands.n = six r.n r.stands.n (length p.table) r.extra.size r.stands.size in
    let x : Extra r.stands.n r.tree p = subst (λ n. Extra n r.tree p) en r.extra in
    subst (λ t. Extra r.stands.n t p) (one-tree _ r.tree r.stands.tree x.owners.inv r.stands.carries) x
  where
    six : (a b l : ℕ) → l ≡ a * 6 → l ≡ b * 6 → a ≡ b
    six a b l e f = omega arith

-- ---- an empty table

pub extra_fresh : (l n : ℕ) → l ≡ n * 6 → 8 ≤ n → n ≤ 4096 → Extra n (leaf 1 top_number 0 255) (record { table = empty_table l; state = fresh_state; account = opening })
unfolding empty_table
extra_fresh l n e least most = record {
  size = length_law n (replicate l 0) _ (length-replicate l 0 ∙ e);
  owners = record {
    inv = fresh-carries l n e least most;
    tok = λ j. 0;
    loose = [];
    few = omega arith;
    owner = λ j. rw (all_alike 8 j idle_task) tt;
    cover = λ b h. absurd (omega (arith, lvs-not 255 255 (ind b 1) (lv-not_255 255)));
  };
  paid = omega arith;
  sentinel-leaf = omega (arith, ind-same 255);
}

module _ {p : Point} (s : Stands p) (x : Extra s.n s.tree p) where
  abbrev st : State
  st = p.state

  abbrev v : View
  v = view s.n p.table

  abbrev T : ℕ → Role
  T = roles st

  in_range : (i : ℕ) → i < 8 → i < length st.tasks
  in_range i lt = omega (arith, s.eight)

  role-at : (i : ℕ) (w : Work) → (task_at st i).work ≡ w → T i ≡ role w
  role-at i w e = ap role e

  abbrev stored : ℕ → Task → ℕ → ℕ → State
  stored i k m u = record { tasks = set st.tasks i k; m = m; u = u }

  -- only task i changes, and its owners are as they should be
  at-task : (i : ℕ) → i < 8 → (k : Task) (m u : ℕ) (a : Account) → st.m ≤ m → Owners 8 v s.tree u (cast T i (role k.work))
      → Extra s.n s.tree (record { table = p.table; state = stored i k m u; account = a })
  at-task i lt k m u a more o = record {
    size = s.size;
    owners = subst (Owners 8 v s.tree u) (sym (roles-stored st.tasks st.m m st.u u i k (in_range i lt))) o;
    paid = omega (arith, x.paid);
    sentinel-leaf = x.sentinel-leaf;
  }

  -- a task that was no settler and is none
  served : (i : ℕ) → i < 8 → (k : Task) (m u : ℕ) (a : Account) → st.m ≤ m → u ≡ st.u → T i ≡ other → role k.work ≡ other
      → Extra s.n s.tree (record { table = p.table; state = stored i k m u; account = a })
  served i lt k m u a more eu was is =
      at-task i lt k m u a more (rw (eu, is, cast_same T i other was) x.owners)

  -- ---- the steps without a commit

  module _ (i : ℕ) (j : Job) (f : Phase) (lt : i < 8) (is : (task_at st i).work ≡ Busy j f) (a : Account) where
    num : j.number < 1000000
    num = (subst (WorkOk v s.tree) is (s.ok i)).0

    goes_on : (f' : Phase) (g : Goal) → goal_of f ≡ g → goal_of f' ≡ g → Moves v j.number f f' → Owners 8 v s.tree st.u (cast T i (role_of j.number f'))
    goes_on f' (Serve o) e e' mv = rw (serve-role j.number f' o e', cast_same T i other (role-at i (Busy j f) is ∙ serve-role j.number f o e)) x.owners
    goes_on (Start (Serve o)) Settle e e' mv = absurd (let z : ◌≡◌ {A = ℕ} 0 1 = cc in omega arith)
    goes_on (Start Settle) Settle e e' mv =
        let r = settle-role j.number f e in
        owners_restart x.owners i j.number r.0 (role-at i (Busy j f) is ∙ r.1)
    goes_on (Walk (Serve o) q) Settle e e' mv = absurd (let z : ◌≡◌ {A = ℕ} 0 1 = cc in omega arith)
    goes_on (Walk Settle q) Settle e e' mv =
        rw mv.1 (owners_walk x.owners i j.number (standing f) (role-at i (Busy j f) is ∙ walk_role j.number f e mv.0)
        (subst (λ y. lv (v (standing f)).rank (v y).rank ≡ true → ⊥) mv.1 mv.2))
    goes_on (PuttingIn q s') Settle e e' mv = absurd (let z : ◌≡◌ {A = ℕ} 0 1 = cc in omega arith)
    goes_on (TakingOut q s') Settle e e' mv = absurd (let z : ◌≡◌ {A = ℕ} 0 1 = cc in omega arith)
    goes_on (Settling q s') Settle e e' mv =
        let r = settle-role j.number f e in
        owners_read x.owners i j.number r.0 (role-at i (Busy j f) is ∙ r.1)

    quiet-extra : (b : Turn) → Quiet v s.tree j f b → Extra s.n s.tree (record { table = p.table; state = turned st i b false; account = a })
    quiet-extra _ hurts = record { size = s.size; owners = x.owners; paid = x.paid; sentinel-leaf = x.sentinel-leaf }
    quiet-extra _ (moves-on f' e ok mv) =
        at-task i lt (busy j f') (st.m + 0) (st.u + 0) a (omega arith) (rw (add-zero st.u) (goes_on f' (goal_of f) refl e mv))
    quiet-extra _ (stops o y e n) =
        served i lt idle_task (st.m + 0) (st.u + one (eqb (number_of y) 6)) a (omega arith) (rw (not_six st (record { tasks = []; commits = []; lost = 0 }) i o (number_of y) n) (add-zero st.u))
        (role-at i (Busy j f) is ∙ serve-role j.number f o e) refl
    quiet-extra _ (settled e w l z) =
        at-task i lt idle_task (st.m + 0) (st.u + 0) a (omega arith)
        (rw (add-zero st.u) (owners_end x.owners i j.number (standing f) (role-at i (Busy j f) is ∙ walk_role j.number f e w) l z))
    quiet-extra _ (leaves e) =
        at-task i lt idle_task (st.m + 0) (st.u + 1) a (omega arith) (let q : st.u + 1 ≡ suc st.u = omega arith in rw q (owners_leave x.owners i))

    -- ---- the commits

    -- the table after the writes, and owners of the view after them
    wrote-extra : (ws : List Write) → Within s.n ws → (t' : Tree) (k : Task) (m u : ℕ) → Owners 8 (upds v ws) t' u (cast T i (role k.work)) → phi t' ≤ 2 * m → 1 ≤ sents t'
        → Extra s.n t' (record { table = puts p.table ws; state = stored i k m u; account = a })
    wrote-extra ws inside t' k m u o ph se = record {
      size = length_law s.n p.table ws s.size;
      owners = subst (λ w. Owners 8 w t' u (roles (stored i k m u))) (sym (view-law s.n p.table ws s.size inside))
          (subst (Owners 8 (upds v ws) t' u) (sym (roles-stored st.tasks st.m m st.u u i k (in_range i lt))) o);
      paid = ph;
      sentinel-leaf = se;
    }

    module _ {kind : Kind} (ws : List Write) (inside : Within s.n ws) (t' : Tree) (act : Act v kind s.tree (upds v ws) t') where
      ready : Proper act
      ready = proper act s.carries s.shape

      phi-after : (m : ℕ) → 2 * st.m + pays kind ≤ 2 * m → phi t' ≤ 2 * m
      phi-after m h = omega (arith, act_phi act s.shape, x.paid)

      sents-after : 1 ≤ sents t'
      sents-after = omega (arith, act_sents act s.shape, x.sentinel-leaf)

      -- a commit that makes no level put-in
      commit-owners : level_put act ≡ false → Owners 8 (upds v ws) t' st.u T
      commit-owners e = owners_commit ready.surgery (ready.from e) x.owners

      -- a level put-in: its task owns the new record
      put-owners : level_put act ≡ true → put_number kind ≡ j.number → T i ≡ other → Owners 8 (upds v ws) t' st.u (cast T i (settler j.number (walking 0)))
      put-owners e k was =
          let l = ready.level e in
          owners_put ready.surgery i j.number lt was (omega (arith, num)) l.0 (subst (λ y. Has ready.y (route y s.tree)) k l.1) x.owners

    was_serving : (o : Operation) → goal_of f ≡ Serve o → T i ≡ other
    was_serving o e = role-at i (Busy j f) is ∙ serve-role j.number f o e

    zero_u : st.u + 0 ≡ st.u
    zero_u = add-zero st.u

    put-extra : (b : Bool) (ws : List Write) → Within s.n ws → goal_of f ≡ Serve PutIn → (ch : PutChanged v j.number j.price s.tree (upds v ws) b)
        → Extra s.n ch.tree (record { table = puts p.table ws; state = turned st i (turn_of_put j b) true; account = a })
    unfolding if_b
    put-extra true ws inside g ch =
        wrote-extra ws inside ch.tree (busy j (Start Settle)) (st.m + 1) (st.u + 0)
        (rw zero_u (put-owners ws inside ch.tree ch.act ch.level refl (was_serving PutIn g)))
        (phi-after ws inside ch.tree ch.act (st.m + 1) (omega arith)) (sents-after ws inside ch.tree ch.act)
    put-extra false ws inside g ch =
        wrote-extra ws inside ch.tree idle_task (st.m + 1) (st.u + 0)
        (rw (zero_u, cast_same T i other (was_serving PutIn g)) (commit-owners ws inside ch.tree ch.act ch.level))
        (phi-after ws inside ch.tree ch.act (st.m + 1) (omega arith)) (sents-after ws inside ch.tree ch.act)

    -- only put-ins make level records of their own
    take_level : {t t' : Tree} {w : View} (act : Act v (takes_out j.number) t w t') → level_put act ≡ false
    take_level (takes c b q kp rp l kl pl rl s' S free fare) = refl

    settle-level : {t t' : Tree} {w : View} (act : Act v settles t w t') → level_put act ≡ false
    settle-level (promotes c b z z' key r X S free lx near up lim) = refl
    settle-level (rotates1 c b z y x' z' kx kz rx k W Y S fx fz xz lx hy hs lim) = refl
    settle-level (rotates2 c b z y x' z' kx kz rx k W Y S fx fz xz lx hy hw hs up lim) = refl
    settle-level (doubles c b z y w y' x' z' kx ky kz rx ry k W A B S fy fx fz up lx ey hw hs lim) = refl

    take_extra : (ws : List Write) → Within s.n ws → goal_of f ≡ Serve TakeOut → (ch : Changed v (takes_out j.number) s.tree (above_of f) (upds v ws))
        → Extra s.n ch.tree (record { table = puts p.table ws; state = stored i idle_task (st.m + 0) (st.u + 0); account = a })
    take_extra ws inside g ch =
        wrote-extra ws inside ch.tree idle_task (st.m + 0) (st.u + 0)
        (rw (zero_u, cast_same T i other (was_serving TakeOut g)) (commit-owners ws inside ch.tree ch.act (take_level ch.act)))
        (phi-after ws inside ch.tree ch.act (st.m + 0) (omega arith)) (sents-after ws inside ch.tree ch.act)

    settle-extra : (ws : List Write) → Within s.n ws → goal_of f ≡ Settle → (ch : Changed v settles s.tree (above_of f) (upds v ws))
        → Extra s.n ch.tree (record { table = puts p.table ws; state = stored i (busy j (Start Settle)) (st.m + 0) (st.u + 0); account = a })
    settle-extra ws inside g ch =
        let r = settle-role j.number f g in
        let o = commit-owners ws inside ch.tree ch.act (settle-level ch.act) in
        wrote-extra ws inside ch.tree (busy j (Start Settle)) (st.m + 0) (st.u + 0)
        (rw zero_u (owners_restart o i j.number r.0 (role-at i (Busy j f) is ∙ r.1)))
        (phi-after ws inside ch.tree ch.act (st.m + 0) (omega arith)) (sents-after ws inside ch.tree ch.act)

    pub step-extra : (d : Did) → Within s.n d.writes → Does v s.tree st.m j f d
        → (t' : Tree) × Extra s.n t' (record { table = puts p.table d.writes; state = turned st i d.turn d.committed; account = a })
    unfolding puts
    step-extra _ inside (rests b q) = (s.tree, quiet-extra b q)
    step-extra _ inside (put-commits b ws lim g ch) = (ch.tree, put-extra b ws inside g ch)
    step-extra _ inside (take-commits ws g ch) = (ch.tree, take_extra ws inside g ch)
    step-extra _ inside (settle-commits ws g ch) = (ch.tree, settle-extra ws inside g ch)

  -- ---- a tidy: no task settles

  tidy-extra : busy_tasks st.tasks 8 ≡ 0 → Extra s.n s.tree (record { table = tidied s; state = st; account = p.account })
  tidy-extra e =
      let w = swept s.n p.table s.tree (the_seen s) s.size in
      let o = x.owners in
      record {
        size = length_law s.n p.table (sweep (the_seen s).marks s.n 0) s.size;
        owners = record {
          inv = swept-carries s.n v (view s.n (tidied s)) s.tree w s.carries;
          tok = o.tok;
          loose = o.loose;
          few = o.few;
          owner = λ y. subst (λ r. Owner (view s.n (tidied s)) s.tree r (o.tok y)) (sym (ap role (all_idle s e y))) tt;
          cover = o.cover;
        };
        paid = x.paid;
        sentinel-leaf = x.sentinel-leaf;
      }

  -- a task that is abandoned: one more of the u if it was settling
  abandon-extra : (i du : ℕ) (a : Account) → i < 8 → (o : Open) (w : Work) → Agree o w → (task_at st i).work ≡ w → du ≡ one_unsettled o
      → Extra s.n s.tree (record { table = p.table; state = stored i idle_task st.m (st.u + du); account = a })
  abandon-extra i du a lt shut Idle g is e = served i lt idle_task st.m (st.u + du) a (omega arith) (omega arith) (role-at i Idle is) refl
  abandon-extra i du a lt shut (Busy j f) g is e = absurd g
  abandon-extra i du a lt (begun o j) Idle g is e = absurd g
  abandon-extra i du a lt (begun o j) (Busy j' f) g is e =
      served i lt idle_task st.m (st.u + du) a (omega arith) (omega arith) (role-at i (Busy j' f) is ∙ serve-role j'.number f o g.1) refl
  abandon-extra i du a lt unsettled Idle g is e = absurd g
  abandon-extra i du a lt unsettled (Busy j f) g is e =
      at-task i lt idle_task st.m (st.u + du) a (omega arith) (let q : st.u + du ≡ suc st.u = omega arith in rw q (owners_leave x.owners i))

  -- EVERYTHING that a call can do
  pub extra_on : {c : Ask} {l : Left} {a' : Account} {t' : Tree} → Passes s c l a' t' → (t'' : Tree) × Extra s.n t'' (record { table = l.table; state = l.state; account = a' })
  extra_on (refused y h) = (s.tree, x)
  extra_on (looks y h) = (s.tree, x)
  extra_on resets = (leaf 1 top_number 0 255, extra_fresh (length p.table) s.n s.size s.least s.most)
  extra_on (begins i o j lt idle f) = (s.tree, served i lt (taskBegun o j) st.m st.u _ (omega arith) refl (role-at i Idle idle) refl)
  extra_on (steps i j f d lt is e inside does b) = rw (← b.state-is) (step-extra i j f lt is _ d inside does)
  extra_on (abandons i du y lt b e h) = (s.tree, abandon-extra i du _ lt (open_at p.account i) (task_at st i).work (s.agree i) refl e)
  extra_on (tidies e) = (s.tree, tidy-extra e)
