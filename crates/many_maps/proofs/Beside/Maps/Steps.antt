-- Whoever takes a step of a call on one map, or is told what to do by a reply, all maps stand together again.
use Rattle.std.specs.Prelude.{◌≡◌, ◌≢◌, ℕ, Bool, Option, Some, None}
use Rattle.std.specs.Int.{IsPowerOfTwo}
use Rattle.std.proofs.Common.{refl, sym, subst, ◌∙◌, inl, inr}
use Rattle.many_calls.specs.Given.SeizeWordsMem.{Mem}
use Rattle.many_calls.specs.Given.SeizeWorld.{World, IsInside, with_at}
use Rattle.many_calls.specs.Given.TablesDeclared.node.Node.{Node}
use Rattle.many_calls.specs.Given.RawDeclared.machines.answer.Called.{Called}
use Rattle.many_calls.specs.Given.RawDeclared.machines.call.KeyCall.{KeyCall}
use Rattle.many_calls.specs.Given.RuleChart.{Chart}
use Rattle.many_calls.specs.Given.RuleWords.{Blocks}
use Rattle.many_calls.specs.Given.RuleInWorld.{IsKnownBlock, StepSpec}
use Rattle.many_calls.proofs.Given.RuleWorld.WentTold.{went_as}
use Rattle.many_calls.specs.Given.PointsSteps.{AreLawful}
use Rattle.many_maps.specs.Maps.{Standing, with_call, MapsTogether, StepsInMaps, CallsStandInMaps, RepliesStandInMaps}
use Rattle.many_calls.specs.Sights.{Visible, seen_by}
use Rattle.many_calls.specs.Together.{OnKey, CallOnKey, UnderWay, CameAbout, in_slot, next_of, change_observed, StepsTogether}
use Rattle.many_maps.proofs.Beside.Maps.All.{not_none, StandsSo, calls_only, calls_once, its_calls, others_calls, maps_with_call}
use Rattle.many_maps.proofs.Beside.Maps.Comes.{each_at, two_at, none_at}
use Rattle.many_maps.proofs.Beside.Maps.OtherSteps.{known_out, known_owner, other_spared}
use Rattle.many_maps.proofs.Beside.Maps.Stays.{stays}
use Rattle.many_calls.proofs.Together.Replies.{replies_stand_together}
use Rattle.many_calls.proofs.Together.Stand.{stand_together}

module _ {K Q : Type 0} (V : Type 0) (same : K → K → Bool) (asks : Q → K → Bool) (size : ℕ) (slot : ℕ → ℕ)
    (w : World (Node K V)) (maps : ℕ → Option (Standing K)) (calls : ℕ → ℕ → Option (UnderWay K V Q)) (all : MapsTogether V same asks size slot w maps calls)
    (m : ℕ) (s : Standing K) (here : maps m ≡ Some s) (i : ℕ) (u : UnderWay K V Q) (has : calls m i ≡ Some u) where
  -- its caller has no call on another map
  pub no_other : (n : ℕ) → n ≢ m → calls n i ≡ None
  no_other n ne = by (calls n i) refl
    where
      by : (o : Option (UnderWay K V Q)) → calls n i ≡ o → o ≡ None
      by None e = refl
      by (Some v) e = absurd (ne (all.once n m i (not_none v (calls n i) e) (not_none u (calls m i) has)))

  -- what it sees is the map's, if it is inside its section
  pub seen_known : IsInside (w.uses (slot i)) → (b : ℕ) → IsKnownBlock s.chart (seen_by s.blocks (s.sights (slot i))) b → IsKnownBlock s.chart s.blocks b
  seen_known in_it b (inl (t, made, seen, is)) = inl (t, made, ((all.each m s here).ground.sight (slot i) in_it).0.tables t made seen, is)
  seen_known in_it b (inr (n, was, seen, is)) = inr (n, was, ((all.each m s here).ground.sight (slot i) in_it).0.pairs n was seen, is)

  -- each other map stands on
  module _ (in_it : IsInside (w.uses (slot i))) (m2 : Mem (Node K V)) (Told : World (Node K V) → Chart K → Blocks → Type 0)
      (went : StepSpec same s.hash (in_slot s.setting (slot i)) i w s.chart (seen_by s.blocks (s.sights (slot i))) m2 Told) where
    pub others_stand : (n : ℕ) (r : Standing K) → n ≢ m → maps n ≡ Some r → StandsSo V same asks size slot went.w2 r (calls n)
    others_stand n r ne is =
        stays same r.hash asks r.setting slot (all.fit n r is).0 w r.chart r.blocks r.sights (calls n) (all.each n r is) went.w2
        (other_spared same r.hash asks r.setting slot w r.chart r.blocks r.sights (calls n) (all.each n r is) s.hash (in_slot s.setting (slot i)) i (no_other n ne) s.chart (seen_by s.blocks (s.sights (slot i))) m2
        (all.roots n m r s ne is here) (all.counters n m r s ne is here) ((all.fit m s here).2 ∙ sym (all.fit n r is).2)
        (all.each m s here).ground.counter
        (λ b seen. known_out same s.hash asks s.setting slot w s.chart s.blocks s.sights (calls m) (all.each m s here) b (seen_known in_it b seen))
        (λ b seen. known_owner same s.hash asks s.setting slot w s.chart s.blocks s.sights (calls m) (all.each m s here) b (seen_known in_it b seen))
        (slot i) in_it
        (went_as same s.hash (in_slot s.setting (slot i)) i w s.chart (seen_by s.blocks (s.sights (slot i))) m2 Told (λ w3 c3 b3. Unit {0}) (λ w3 c3 b3 map moved blocks_same told. tt) went))

  -- where its own map stands after it, and the others do, all maps stand
  module _ (w2 : World (Node K V)) (c2 : Chart K) (blocks2 : Blocks) (sights2 : ℕ → Visible) (goes_on : Option (UnderWay K V Q)) where
    abbrev pub after : Standing K
    after = record s { chart = c2; blocks = blocks2; sights = sights2 }

    abbrev Now : ℕ → Standing K → Type 0
    Now n r = StandsSo V same asks size slot w2 r (with_call calls m i goes_on n)

    pub all_together : StandsSo V same asks size slot w2 after (with_at (calls m) i goes_on) → ((n : ℕ) (r : Standing K) → n ≢ m → maps n ≡ Some r → StandsSo V same asks size slot w2 r (calls n))
        → MapsTogether V same asks size slot w2 (with_at maps m (Some after)) (with_call calls m i goes_on)
    all_together mine others = record {
      came = subst (λ (n : ℕ). CameAbout n w2) (all.fit m s here).2 mine.ground.came;
      each = each_at V same asks size slot maps m after Now
          (subst (StandsSo V same asks size slot w2 after) (sym (its_calls V same asks size slot maps calls m i goes_on)) mine)
          (λ n r ne is. subst (StandsSo V same asks size slot w2 r) (sym (others_calls V same asks size slot maps calls m i goes_on n ne)) (others n r ne is));
      fit = each_at V same asks size slot maps m after (λ n r. AreLawful same r.hash × IsPowerOfTwo r.setting.initial × (r.setting.batch_size ≡ size)) (all.fit m s here) (λ n r ne is. all.fit n r is);
      roots = two_at V same asks size slot maps m after (λ x y. x.setting.root ≢ y.setting.root) (λ n r ne is. all.roots m n s r (λ e. ne (sym e)) here is) (λ n r ne is. all.roots n m r s ne is here) all.roots;
      counters = two_at V same asks size slot maps m after (λ x y. x.setting.counter ≢ y.setting.counter) (λ n r ne is. all.counters m n s r (λ e. ne (sym e)) here is) (λ n r ne is. all.counters n m r s ne is here) all.counters;
      only = λ n j h. calls_only V same asks size slot maps calls m i goes_on all.only (not_none s (maps m) here) n j (none_at V same asks size slot maps m after n h);
      once = calls_once V same asks size slot maps calls m i goes_on all.once no_other;
    }

module _ {K Q : Type 0} (V : Type 0) (same : K → K → Bool) (asks : Q → K → Bool) (size : ℕ) (slot : ℕ → ℕ)
    (w : World (Node K V)) (maps : ℕ → Option (Standing K)) (calls : ℕ → ℕ → Option (UnderWay K V Q)) (all : MapsTogether V same asks size slot w maps calls)
    (m : ℕ) (s : Standing K) (here : maps m ≡ Some s) (i : ℕ) (u : CallOnKey K V Q) (has : calls m i ≡ Some (OnKey u)) where
  pub in_maps : (m2 : Mem (Node K V)) (p2 : KeyCall K V Q) (progress : Called (Node K V)) → StepsTogether V same s.hash asks s.setting slot w s.chart s.blocks s.sights (calls m) i u m2 p2 progress
      → StepsInMaps V same asks size slot w maps calls m s i u m2 p2 progress
  in_maps m2 p2 progress step = record {
    step = step;
    together = all_together V same asks size slot w maps calls all m s here i (OnKey u) has step.went.w2 step.went.c2 step.blocks2 step.sights2
        (next_of (record { keys = u.keys; pair = u.pair; began = u.began; change = change_observed V same s.hash asks s.setting slot step.went.told; call = p2 }) progress)
        step.together (others_stand V same asks size slot w maps calls all m s here i (OnKey u) has ((all.each m s here).inside i (OnKey u) has) m2 _ step.went);
  }

module _ {K Q : Type 0} (V : Type 0) (same : K → K → Bool) (asks : Q → K → Bool) (size : ℕ) (slot : ℕ → ℕ) where
  pub calls_stand_in_maps : CallsStandInMaps V same asks size slot
  calls_stand_in_maps w maps calls all m s here i u has none =
      let fit = all.fit m s here in
      let leads = stand_together same s.hash asks s.setting slot fit.0 fit.1 w s.chart s.blocks s.sights (calls m) (all.each m s here) i u has none in
      (leads.0, λ m2 p2 progress st. in_maps V same asks size slot w maps calls all m s here i u has m2 p2 progress (leads.1 m2 p2 progress st))

  pub replies_stand_in_maps : RepliesStandInMaps V same asks size slot
  replies_stand_in_maps w maps calls all m s here i u has asks_at asks_it =
      let fit = all.fit m s here in
      let taken = replies_stand_together same s.hash asks s.setting slot fit.0 fit.1 w s.chart s.blocks s.sights (calls m) (all.each m s here) i u has asks_at asks_it in (
        taken.0,
        taken.1,
        taken.2,
        λ about is reply. maps_with_call V same asks size slot w maps calls all m s here i _ (no_other V same asks size slot w maps calls all m s here i (OnKey u) has) (taken.3 about is reply),
      )
