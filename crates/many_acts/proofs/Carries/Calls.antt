-- Whose a block is, after a step of a call that is none of a row, behind which something may be put: if what the root has left by it, and what the call was to
-- hand over, the call is to hand over then.
use Rattle.std.specs.Prelude.{◌≢◌, Option, Some, None, IsSome}
use Rattle.std.proofs.Common.{◌≡◌, ℕ, ◌<◌, ◌≤◌, zero, suc, Bool, true, ◌⊎◌, inl, inr, refl, arith, ap, sym, subst, ◌∙◌}
use Rattle.std.proofs.lemmas.Bool.{cases_lt, cases_eq}
use Rattle.run_shows.specs.Given.SeizeWordsMem.{Mem, value_at}
use Rattle.run_shows.specs.Given.SeizeWorld.{World, Row, Hand, NoBlock, Making, InUse, Parting, Cutting, Handed, LeftTo, IsInside, with_at}
use Rattle.seize_acts.specs.Acts.Reclaimed.{IsStillHad}
use Rattle.seize_acts.specs.Given.SeizeAloneAlone.{IsOfUsers}
use Rattle.seize_acts.proofs.Given.SeizeAloneHistories.NotTaken.{IsHad, kept_there}
use Rattle.seize_acts.proofs.Given.SeizeAloneHistories.Reached.{Reached}
use Rattle.run_shows.specs.Given.TablesNodes.{deferred_word}
use Rattle.run_shows.specs.Given.TablesDeclared.node.Node.{Node}
use Rattle.run_shows.specs.Given.TablesDeclared.node.Node.TheVariants as node
use Rattle.run_shows.specs.Given.ResizeDeclared.copier.Copier.{Copier}
use Rattle.run_shows.specs.Given.RuleChart.{Chart}
use Rattle.run_shows.specs.Given.RuleWords.{Blocks}
use Rattle.run_shows.specs.Given.RuleInWorld.{IsOut, IsKnownBlock, IsOwnBlock, StepSpec}
use Rattle.owner_facts.proofs.Alone.Handed.RootTurns.{IsPromoted, first_moves}
use Rattle.owner_facts.specs.Given.CallersSights.{Visible, IsGrown, seen_by}
use Rattle.owner_facts.specs.Given.CallersTogether.{UnderWay, in_slot, Together}
use Rattle.owner_facts.proofs.Given.CallersClaims.Charts.{past_moved}
use Rattle.owner_facts.proofs.Given.CallersTogether.At.{at_other, at_same}
use Rattle.owner_facts.proofs.Given.CallersTogether.Came.{came_reached}
use Rattle.owner_facts.proofs.Given.CallersTogether.Users.{events_rows}
use Rattle.owner_facts.specs.Given.FinishesEndings.{Finishing}
use Rattle.owner_facts.specs.Given.FinishesMaps.{Standing, MapsTogether, with_call}
use Rattle.owner_facts.proofs.Given.FinishesBeside.Maps.OtherSteps.{known_out}
use Rattle.owner_facts.proofs.Given.FinishesBeside.Maps.Steps.{seen_known}
use Rattle.run_shows.specs.Reclaims.Deferred.{IsLinkedTable}
use Rattle.many_acts.specs.Carries.Theirs.{copier_of, IsToHandOver, HasObligation, CanCarry, IsTheirs, AllAreTheirs}
use Rattle.many_acts.proofs.Carries.Hands.{step_origin}
use Rattle.many_acts.proofs.Carries.Owed.{one_some, StandsOn, StandsOnAt, stays_so, hands_on, OwesThen, owed_then, owed_with}

pub users_of : (h : Hand) → IsStillHad h → IsOfUsers h
users_of NoBlock is = absurd is
users_of (Making i) is = absurd is
users_of (InUse o) is = tt
users_of (Parting i) is = tt
users_of (Cutting i) is = tt
users_of Handed is = absurd is
users_of (LeftTo i) is = absurd is

pub out_of : (h : Hand) → IsStillHad h → IsOut h
out_of NoBlock is = absurd is
out_of (Making i) is = absurd is
out_of (InUse o) is = tt
out_of (Parting i) is = tt
out_of (Cutting i) is = tt
out_of Handed is = absurd is
out_of (LeftTo i) is = absurd is

module _ {K Q : Type 0} (V : Type 0) (same : K → K → Bool) (asks : Q → K → Bool) (size : ℕ) (slot : ℕ → ℕ)
    (w : World (Node K V)) (maps : ℕ → Option (Standing K)) (calls : ℕ → ℕ → Option (UnderWay K V Q)) (enders : ℕ → Option (Finishing K V)) (all : MapsTogether V same asks size slot w maps calls)
    (m : ℕ) (s : Standing K) (here : maps m ≡ Some s) (i : ℕ) (u : UnderWay K V Q) (has : calls m i ≡ Some u)
    (m2 : Mem (Node K V)) (Told : World (Node K V) → Chart K → Blocks → Type 0)
    (went : StepSpec same s.hash (in_slot s.setting (slot i)) i w s.chart (seen_by s.blocks (s.sights (slot i))) m2 Told)
    (blocks2 : Blocks) (grown : IsGrown s.chart s.blocks went.blocks2 blocks2) (sights2 : ℕ → Visible) (next : Option (UnderWay K V Q)) where
  -- the map after the step, and all maps, and all calls
  abbrev pub its : Standing K
  its = record s { chart = went.c2; blocks = blocks2; sights = sights2 }

  abbrev pub maps2 : ℕ → Option (Standing K)
  maps2 = with_at maps m (Some its)

  abbrev pub calls2 : ℕ → ℕ → Option (UnderWay K V Q)
  calls2 = with_call calls m i next

  -- the call goes on, and is to hand the block over
  abbrev pub Due : ℕ → Type 0
  Due b = OwesThen w went.w2 maps maps2 calls enders enders m i next b

  together : Together V same s.hash asks s.setting slot w s.chart s.blocks s.sights (calls m)
  together = all.each m s here

  pub rows_are : (j : ℕ) → went.w2.row j ≡ w.row j
  rows_are j = ap (λ (f : ℕ → Row). f j) (events_rows s.setting.batch_size went.events w went.w2 went.users went.runs)

  -- another map stands as it stood
  other : (n : ℕ) → n ≢ m → maps2 n ≡ maps n
  other n ne = at_other maps m (Some its) n ne

  its_now : maps2 m ≡ Some its
  its_now = at_same maps m (Some its) m refl

  past : s.chart.past ≤ went.c2.past
  past = past_moved s.hash s.setting.mode s.chart went.c2 same i went.moved

  -- all maps stand on
  its_on : StandsOn s its
  its_on = record { mode = refl; past = past; tables = λ t made. (grown.tables t made).0 }

  stand_on : (n : ℕ) → StandsOnAt maps maps2 n
  stand_on n r is = by (cases_eq n m)
    where
      by : (n ≡ m) ⊎ (n ≢ m) → (r2 : Standing K) × (maps2 n ≡ Some r2) × StandsOn r r2
      by (inl e) = (its, at_same maps m (Some its) n e, subst (λ (x : Standing K). StandsOn x its) (one_some (maps n) s r (ap maps e ∙ here) is) its_on)
      by (inr ne) = (r, other n ne ∙ is, stays_so r)

  -- what its copier is to hand over, of the tables as they stood, the call is to hand over then
  pub owes_after : (u2 : UnderWay K V Q) (q : Copier) → next ≡ Some u2 → copier_of u2 ≡ Some q → (b : ℕ) → IsToHandOver w maps m i q b → Due b
  owes_after u2 q is copies b hands = (u2, is, (q, copies, hands_on w went.w2 maps maps2 m i q b (λ rests. rows_are i ∙ rests) (stand_on m) hands))

  module _ (in_it : IsInside (w.uses (slot i))) (b : ℕ) where
    -- whose it was, it is
    theirs_on : ((t : ℕ) → s.chart.first ≤ t → t < went.c2.first → b ≡ s.blocks.table t → Due b) → (HasObligation w maps m i u b → Due b)
        → IsTheirs w maps calls enders b → IsTheirs went.w2 maps2 calls2 enders b
    theirs_on passes keeps (inr (inl owed)) =
        inr (inl (owed_with w went.w2 maps maps2 calls enders enders m i next b (λ n j v under ne. ((λ rests. rows_are j ∙ rests), stand_on n))
        (λ v under owes. keeps (subst (λ (x : UnderWay K V Q). HasObligation w maps m i x b) (one_some (calls m i) v u under has) owes)) owed))
    theirs_on passes keeps (inr (inr ending)) = inr (inr ending)
    theirs_on passes keeps (inl (n, r, is, t, from, made, at)) = by (cases_eq n m)
      where
        in_its : r ≡ s → (t < went.c2.first) ⊎ (went.c2.first ≤ t) → IsTheirs went.w2 maps2 calls2 enders b
        in_its e (inl left) =
            let k = passes t (subst (λ (x : Standing K). x.chart.first ≤ t) e from) left (subst (λ (x : Standing K). b ≡ x.blocks.table t) e at) in
            inr (inl (owed_then w went.w2 maps maps2 calls enders enders m i next b k))
        in_its e (inr linked) =
            let was : t < s.chart.past = subst (λ (x : Standing K). t < x.chart.past) e made in
            inl (m, its, its_now, t, linked, omega (arith, was, past), subst (λ (x : Standing K). b ≡ x.blocks.table t) e at ∙ sym (grown.tables t was).0)

        by : (n ≡ m) ⊎ (n ≢ m) → IsTheirs went.w2 maps2 calls2 enders b
        by (inl e) = in_its (one_some (maps n) r s is (ap maps e ∙ here)) (cases_lt t went.c2.first)
        by (inr ne) = inl (n, r, other n ne ∙ is, t, from, made, at)

    seen_out : (x : ℕ) → IsKnownBlock s.chart (seen_by s.blocks (s.sights (slot i))) x → IsOut (w.hand x)
    seen_out x seen = known_out same s.hash asks s.setting slot w s.chart s.blocks s.sights (calls m) together x (seen_known V same asks size slot w maps calls all m s here i u has in_it x seen)

    -- a table that its caller had made
    new_linked : w.hand b ≡ Making i → (t : ℕ) → t < went.c2.past → went.blocks2.table_known t ≡ true → b ≡ went.blocks2.table t → IsLinkedTable went.w2 maps2 b
    new_linked making t made known at = by (cases_lt t s.chart.past)
      where
        first_low : (past : ℕ) → s.chart.past ≡ past → s.chart.past ≤ t → s.chart.first ≤ t
        first_low zero none new = let first = together.ground.map.map.rule.common.rootless none in omega (arith, first)
        first_low (suc k) some new = let first = together.ground.map.map.rule.common.rooted (omega (arith, some)) in omega (arith, first, new)

        linked : s.chart.past ≤ t → (went.c2.first ≡ s.chart.first) ⊎ IsPromoted same s.hash (in_slot s.setting (slot i)) s.chart went.c2 → went.c2.first ≤ t
        linked new (inl same_first) = let low = first_low s.chart.past refl new in omega (arith, low, same_first)
        linked new (inr moved) = let same_past = moved.2 in absurd (omega (arith, made, same_past, new))

        by : (t < s.chart.past) ⊎ (s.chart.past ≤ t) → IsLinkedTable went.w2 maps2 b
        by (inl was) =
            let known_then = went.blocks_same.tables_back t was known in
            let at_then = at ∙ (went.blocks_same.tables t was known_then).0 in
            let is_out = seen_out b (inl (t, was, known_then, at_then)) in absurd (subst IsOut making is_out)
        by (inr new) =
            (m, its, its_now, t, linked new (first_moves same s.hash (in_slot s.setting (slot i)) s.chart went.c2 went.moved), made, at ∙ sym (grown.new_tables t new).0)

    no_pair : (o : Option (Node K V)) → value_at went.w2.memory b ≡ o → (key : K) (value : V) → o ≡ Some (node.Pair key value) → CanCarry went.w2 maps2 calls2 enders b → ⊥
    no_pair o e key value is (still, field, x, there, has_list) = none x (one_some (value_at went.w2.memory b) x (node.Pair key value) there (e ∙ is)) has_list
      where
        none : (y : Node K V) → y ≡ node.Pair key value → deferred_word y ≡ Some field → ⊥
        none y same_value h = let k : deferred_word y ≡ None = ap deferred_word same_value in cc (k, h)

    of_made : w.hand b ≡ Making i → CanCarry went.w2 maps2 calls2 enders b → IsKnownBlock went.c2 went.blocks2 b → IsLinkedTable went.w2 maps2 b
    of_made making can (inl (t, made, known, at)) = new_linked making t made known at
    of_made making can (inr (n, was, known, at)) =
        let pair = went.map.map.shows.pairs n was known in
        absurd (no_pair (value_at went.w2.memory b) refl pair.0 pair.1 (ap (value_at went.w2.memory) at ∙ pair.2) can)

    -- it had the value that it has
    same_value : IsStillHad (w.hand b) → CanCarry went.w2 maps2 calls2 enders b → CanCarry w maps calls enders b
    same_value still (then, field, x, there, has_list) = (still, field, x, by (value_at w.memory b) refl (kept_there deferred_word s.setting.batch_size w reached b (IsHad (users_of (w.hand b) still))), has_list)
      where
        reached : Reached deferred_word s.setting.batch_size w
        reached = came_reached s.setting.batch_size w together.ground.came

        not_own : IsOwnBlock i w b → ⊥
        not_own own = subst IsStillHad own.0 still

        by : (o : Option (Node K V)) → value_at w.memory b ≡ o → IsSome o → value_at w.memory b ≡ Some x
        by None is some = absurd (cc some)
        by (Some y) is some =
            let kept = ap (λ (n : Mem (Node K V)). value_at n b) went.memory ∙ went.frame.values b y is not_own in
            is ∙ ap Some (one_some (value_at went.w2.memory b) y x kept there)

    -- what users have then, and may have something put behind it, they had so, or it is a table that the step has linked
    carried : CanCarry went.w2 maps2 calls2 enders b → CanCarry w maps calls enders b ⊎ IsLinkedTable went.w2 maps2 b
    carried can =
        by (step_origin s.setting.batch_size (in_slot s.setting (slot i)) i w s.chart (seen_by s.blocks (s.sights (slot i))) seen_out b went.events went.w2
        (came_reached s.setting.batch_size w together.ground.came) went.users went.its went.runs can.0)
      where
        by : IsStillHad (w.hand b) ⊎ (w.hand b ≡ Making i) → CanCarry w maps calls enders b ⊎ IsLinkedTable went.w2 maps2 b
        by (inl still) = inl (same_value still can)
        by (inr making) = inr (of_made making can (went.links.known b making (out_of (went.w2.hand b) can.0)))

  -- so each is somebody's
  pub went_theirs : IsInside (w.uses (slot i)) → AllAreTheirs w maps calls enders
      → ((b t : ℕ) → s.chart.first ≤ t → t < went.c2.first → b ≡ s.blocks.table t → Due b) → ((b : ℕ) → HasObligation w maps m i u b → Due b)
      → AllAreTheirs went.w2 maps2 calls2 enders
  went_theirs in_it theirs passes keeps b can = by (carried in_it b can)
    where
      by : CanCarry w maps calls enders b ⊎ IsLinkedTable went.w2 maps2 b → IsTheirs went.w2 maps2 calls2 enders b
      by (inl was) = theirs_on in_it b (passes b) (keeps b) (theirs b was)
      by (inr linked) = inl linked
