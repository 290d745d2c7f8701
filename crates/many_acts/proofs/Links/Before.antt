-- What a step of a call unlinks could be reached before: it is one of the map's blocks that the caller sees, and in use, or parting.
use Rattle.std.specs.Prelude.{◌<◌}
use Rattle.std.proofs.Common.{◌≡◌, ◌⊎◌, ◌≤◌, ℕ, Bool, true, false, List, [], ◌∷◌, inl, inr, refl, ap, sym, subst, ◌∙◌}
use Rattle.run_shows.specs.Given.SeizeWordsMem.{Mem}
use Rattle.run_shows.specs.Given.SeizeLaw.{is_somewhere, reachable}
use Rattle.run_shows.specs.Given.SeizeSequence.{IsUsers}
use Rattle.run_shows.specs.Given.SeizeWorld.{World, Hand, NoBlock, Making, InUse, Parting, Cutting, Handed, LeftTo, Event, MayCut, Happens, Runs}
use Rattle.seize_acts.proofs.Given.SeizeAloneHistories.Reached.{Reached, runs_reached}
use Rattle.run_shows.specs.Given.TablesNodes.{deferred_word}
use Rattle.run_shows.specs.Given.TablesDeclared.node.Node.{Node}
use Rattle.run_shows.specs.Given.TablesDeclared.setting.Setting.{Setting}
use Rattle.run_shows.specs.Given.RuleChart.{Chart}
use Rattle.run_shows.specs.Given.RuleInWorld.{AllUsers, IsOut, IsItsEvent, AllIts, IsIts, IsKnownBlock, IsMapIn, StepSpec}
use Rattle.run_shows.specs.Given.RuleWords.{Blocks}
use Rattle.owner_facts.proofs.Given.CallersRows.Known.{known_since}
use Rattle.many_acts.specs.Links.Tied.{unlinkings}
use Rattle.many_acts.proofs.Links.Places.{IsGone, cut_standing}
use Rattle.many_acts.proofs.Links.Unlinked.{IsCutOff, IsUnlinkedBy, user_event, none_again, users_cut, cut_unreached}

module _ {K V : Type 0} (setting : Setting) (caller b : ℕ) (w : World (Node K V)) (c : Chart K) (blocks : Blocks) where
  -- such events unlink the caller's own blocks, and the map's
  its_event : (size : ℕ) (e : Event (Node K V)) (v v2 : World (Node K V)) → IsUsers e → IsItsEvent setting caller w c blocks e → Happens deferred_word size e v v2
      → (unlinkings b v2.log ≡ unlinkings b v.log) ⊎ IsIts caller w c blocks b
  its_event size e v v2 user its h = by (user_event deferred_word size b e v v2 user h)
    where
      by : (unlinkings b v2.log ≡ unlinkings b v.log) ⊎ IsUnlinkedBy deferred_word size b e v v2 → (unlinkings b v2.log ≡ unlinkings b v.log) ⊎ IsIts caller w c blocks b
      by (inl same) = inl same
      by (inr (i, is, may, cut)) = inr (subst (IsItsEvent setting caller w c blocks) is its)

  its_or_same : (size : ℕ) (events : List (Event (Node K V))) (v v2 : World (Node K V)) → AllUsers events → AllIts setting caller w c blocks events → Runs deferred_word size events v v2
      → (unlinkings b v2.log ≡ unlinkings b v.log) ⊎ IsIts caller w c blocks b
  its_or_same size [] v v2 users its runs = inl (ap (λ (x : World (Node K V)). unlinkings b x.log) runs)
  its_or_same size (e ∷ events) v v2 users its runs = by (its_or_same size events runs.0 v2 users.1 its.1 runs.2) (its_event size e v runs.0 users.0 its.0 runs.1)
    where
      by : (unlinkings b v2.log ≡ unlinkings b runs.0.log) ⊎ IsIts caller w c blocks b → (unlinkings b runs.0.log ≡ unlinkings b v.log) ⊎ IsIts caller w c blocks b
          → (unlinkings b v2.log ≡ unlinkings b v.log) ⊎ IsIts caller w c blocks b
      by (inl later) (inl first) = inl (later ∙ first)
      by (inl later) (inr its) = inr its
      by (inr its) first = inr its

module _ {K V : Type 0} (same : K → K → Bool) (hash : K → ℕ) (setting : Setting) (caller b : ℕ) (w : World (Node K V)) (c : Chart K) (blocks : Blocks) (m2 : Mem (Node K V))
    (Told : World (Node K V) → Chart K → Blocks → Type 0) (r : Reached deferred_word setting.batch_size w) (map : IsMapIn same hash setting w c blocks)
    (went : StepSpec same hash setting caller w c blocks m2 Told) where
  -- what the caller has made, and has linked by the step, is in use then
  own_not_cut : w.hand b ≡ Making caller → (i : ℕ) → went.w2.hand b ≡ Cutting i → ⊥
  own_not_cut making i cut = by (went.links.known b making (subst IsOut (sym cut) tt))
    where
      not_before : (x : ℕ) → b ≡ x → IsOut (w.hand x) → ⊥
      not_before x e out = subst IsOut (ap w.hand (sym e) ∙ making) out

      not_used : (x : ℕ) → b ≡ x → went.w2.hand x ≡ InUse setting.counter → ⊥
      not_used x e used = let is : went.w2.hand b ≡ InUse setting.counter = ap went.w2.hand e ∙ used in cc (is, cut)

      table_not : (t : ℕ) → t < went.c2.past → b ≡ went.blocks2.table t
          → ((t < c.past) × (blocks.table_known t ≡ true) × (went.blocks2.table t ≡ blocks.table t)) ⊎ (went.c2.first ≤ t) → ⊥
      table_not t made is (inl (low, known, at)) = not_before (blocks.table t) (is ∙ at) (map.tables_out t low known)
      table_not t made is (inr from) = not_used (went.blocks2.table t) is (went.map.tables t from made)

      pair_not : (n : ℕ) → b ≡ went.blocks2.pair n
          → ((n < c.stored) × (blocks.pair_known n ≡ true) × (went.blocks2.pair n ≡ blocks.pair n)) ⊎ (went.c2.current n ≡ true) → ⊥
      pair_not n is (inl (low, known, at)) = not_before (blocks.pair n) (is ∙ at) (map.pairs_out n low known)
      pair_not n is (inr current) = not_used (went.blocks2.pair n) is (went.map.pairs n current)

      by : IsKnownBlock went.c2 went.blocks2 b → ⊥
      by (inl (t, made, known, is)) =
          table_not t made is ((known_since same hash setting.mode c went.c2 map.map.rule went.moved blocks went.blocks2 went.blocks_same).tables t made known)
      by (inr (n, was, known, is)) =
          pair_not n is ((known_since same hash setting.mode c went.c2 map.map.rule went.moved blocks went.blocks2 went.blocks_same).pairs n was known)

  known_out : IsKnownBlock c blocks b → IsOut (w.hand b)
  known_out (inl (t, made, known, is)) = subst (λ (x : ℕ). IsOut (w.hand x)) (sym is) (map.tables_out t made known)
  known_out (inr (n, was, known, is)) = subst (λ (x : ℕ). IsOut (w.hand x)) (sym is) (map.pairs_out n was known)

  abbrev Same : Type 0
  Same = unlinkings b went.w2.log ≡ unlinkings b w.log

  standing_before : (i : ℕ) → MayCut i (w.hand b) → reachable b w.log ≡ true
  standing_before i may = ap is_somewhere (cut_standing deferred_word setting.batch_size w r b i may)

  gone_same : (hand : Hand) → IsGone hand → w.hand b ≡ hand → Same
  gone_same hand gone is = none_again deferred_word setting.batch_size b hand gone went.events w went.w2 r went.users went.runs is

  out_before : (hand : Hand) → w.hand b ≡ hand → IsOut hand → Same ⊎ (reachable b w.log ≡ true)
  out_before NoBlock is out = absurd out
  out_before (Making i) is out = absurd out
  out_before (InUse o) is out = inr (standing_before 0 (subst (MayCut 0) (sym is) tt))
  out_before (Parting i) is out = inr (standing_before i (subst (MayCut i) (sym is) refl))
  out_before (Cutting i) is out = inl (gone_same (Cutting i) tt is)
  out_before Handed is out = inl (gone_same Handed tt is)
  out_before (LeftTo i) is out = absurd out

  -- So what the step unlinks could be reached, and can't be then.
  pub went_cut_off : IsCutOff b w went.w2
  went_cut_off =
      by (users_cut deferred_word setting.batch_size b went.events w went.w2 r went.users went.runs)
      (its_or_same setting caller b w c blocks setting.batch_size went.events w went.w2 went.users went.its went.runs)
    where
      after : (i : ℕ) → went.w2.hand b ≡ Cutting i → reachable b went.w2.log ≡ false
      after i cut =
          cut_unreached deferred_word setting.batch_size b went.w2 (runs_reached deferred_word setting.batch_size went.events w went.w2 r went.runs) i cut

      both : (i : ℕ) → went.w2.hand b ≡ Cutting i → Same ⊎ (reachable b w.log ≡ true) → IsCutOff b w went.w2
      both i cut (inl same_often) = inl same_often
      both i cut (inr before) = inr (before, after i cut)

      by : Same ⊎ ((i : ℕ) × (went.w2.hand b ≡ Cutting i)) → Same ⊎ IsIts caller w c blocks b → IsCutOff b w went.w2
      by (inl same_often) its = inl same_often
      by (inr cut) (inl same_often) = inl same_often
      by (inr (i, cut)) (inr (inl own)) = absurd (own_not_cut own.0 i cut)
      by (inr (i, cut)) (inr (inr known)) = both i cut (out_before (w.hand b) refl (known_out known))
