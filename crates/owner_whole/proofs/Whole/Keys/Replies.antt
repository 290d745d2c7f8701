-- Told anything where it asks, a call that is alone is alone still.
use Rattle.std.specs.Prelude.{◌≡◌, ℕ, ◌==◌, Bool, true, false, Option, Some, if◌then◌else◌}
use Rattle.std.specs.Int.{IsPowerOfTwo}
use Rattle.std.proofs.Common.{inl, inr, refl, ap, sym, subst, ◌∙◌}
use Rattle.seize.specs.World.{World, with_at}
use Rattle.map_tables.specs.Chunks.{is_incremental}
use Rattle.map_tables.specs.declared.marks.TheConstants.{TOMBSTONE}
use Rattle.map_tables.specs.declared.node.Node.{Node}
use Rattle.map_tables.specs.declared.setting.Setting.{Setting}
use Rattle.seize_words.specs.declared.fault.Fault.TheVariants.{RemoveNothing}
use Rattle.papaya_raw.specs.CallAsks.{with_absent, with_present, absent_replied, present_replied, replied_at, replied}
use Rattle.papaya_raw.specs.CallPoints.{over, going, ending, storing, burying, at_gap}
use Rattle.papaya_raw.specs.declared.machines.answer.End.{End}
use Rattle.papaya_raw.specs.declared.machines.answer.End.TheVariants as ends
use Rattle.papaya_raw.specs.declared.machines.answer.KeyAnswer.TheVariants as answers
use Rattle.papaya_raw.specs.declared.machines.asking.Asking.{Asking}
use Rattle.papaya_raw.specs.declared.machines.asking.Asking.TheVariants as asking
use Rattle.papaya_raw.specs.declared.machines.asking.Gap.{Gap}
use Rattle.papaya_raw.specs.declared.machines.asking.Gap.TheVariants as gaps
use Rattle.papaya_raw.specs.declared.machines.asking.MachineReply.{MachineReply}
use Rattle.papaya_raw.specs.declared.machines.asking.MachineReply.TheVariants as reply
use Rattle.papaya_raw.specs.declared.machines.asking.Takes.{Takes}
use Rattle.papaya_raw.specs.declared.machines.asking.Takes.TheVariants as takes
use Rattle.papaya_raw.specs.declared.machines.asking.Told.{Told}
use Rattle.papaya_raw.specs.declared.machines.asking.Told.TheVariants as tells
use Rattle.papaya_raw.specs.declared.machines.call.KeyCall.{KeyCall}
use Rattle.papaya_raw.specs.declared.machines.call.Calling.{Calling}
use Rattle.papaya_raw.specs.declared.machines.call.Calling.TheVariants as at
use Rattle.map_measures.specs.Given.RuleChart.{Chart}
use Rattle.map_measures.specs.Given.RuleWords.{Blocks}
use Rattle.map_measures.specs.Given.RuleInWorld.{IsMapIn}
use Rattle.owner_facts.specs.Given.PointsFactsCalls.{CallFacts}
use Rattle.owner_facts.specs.Given.PointsSteps.{AreLawful}
use Rattle.owner_facts.specs.Given.PointsTold.{IsRowOfCall}
use Rattle.owner_facts.proofs.Given.PointsCalls.RepliesKnow.{replies_are_taken}
use Rattle.owner_facts.specs.Alone.Counted.{counted_end, counted_at}
use Rattle.owner_facts.specs.Alone.FactsAloneCalls.{TablesAlone, AloneAtPoint}
use Rattle.owner_facts.specs.Given.CallersSights.{Visible, seen_by}
use Rattle.owner_facts.specs.Given.CallersTogether.{CallOnKey, OnKey, replied_about, in_slot, IsAtPoint, Together}
use Rattle.owner_facts.proofs.Given.CallersTogether.At.{at_other, at_same}
use Rattle.owner_facts.proofs.Given.CallersTogether.FactsOn.{KnowsOfCall}
use Rattle.owner_facts.proofs.Given.CallersTogether.Replies.{replies_stand_together}
use Rattle.owner_whole.specs.Whole.Owner.{IsFirst, IsOfRoot, IsAlone}
use Rattle.owner_whole.specs.Whole.Whole.{RepliesLeadOn, RepliesCountNothing}
use Rattle.owner_whole.proofs.Whole.Fresh.Calls.{never_both}
use Rattle.owner_whole.proofs.Whole.Keys.Own as own
use Rattle.owner_whole.proofs.Whole.Rows.Standing.{no_row_rests}

-- where a call stands that was told something, whatever that is
module _ {K V Q : Type 0} (So : Calling → Type 0) (asks : (asks_at : Asking) → So (at.Asks asks_at)) (tries : (word new : ℕ) → So (at.Tries word new)) (plain : So at.Nexts)
    (firsts : (c : KeyCall K V Q) → So (at_gap gaps.NoTable c).0.stands) (allocs : (c : KeyCall K V Q) → So (at_gap gaps.Last c).0.stands)
    (drops : (end : End) → counted_end end ≡ 0 → So (at.Drops end)) (overs : (end : End) → counted_end end ≡ 0 → So (at.Over end)) where
  storing_so : (told : Told V) (c : KeyCall K V Q) (word : ℕ) → So (storing told c word).0.stands
  storing_so tells.Nothing c word = asks (asking.Fills word)
  storing_so (tells.Value value) c word = asks (asking.Fills word)
  storing_so tells.Own c word = tries word c.own
  storing_so tells.Removes c word = asks (asking.Fills word)

  gap_so : (gap : Gap) (c : KeyCall K V Q) → So (at_gap gap c).0.stands
  gap_so gaps.NoTable c = firsts c
  gap_so gaps.Free c = storing_so c.replies.absent c 0
  gap_so gaps.Past c = plain
  gap_so gaps.Last c = allocs c

  ending_so : (c : KeyCall K V Q) (end : End) → counted_end end ≡ 0 → So (ending c end).0.stands
  ending_so c end none = by (c.own == 0)
    where
      by : (b : Bool) → So (if b then over c end else going c (at.Drops end)).0.stands
      by true = overs end none
      by false = drops end none

  burying_so : (c : KeyCall K V Q) (word : ℕ) → So (burying c word).0.stands
  burying_so c word = by (c.own == 0)
    where
      by : (b : Bool) → So (if b then going c (at.Tries word TOMBSTONE) else going c (at.Asks (asking.GivesUp word))).0.stands
      by true = tries word TOMBSTONE
      by false = asks (asking.GivesUp word)

  absent_so : (kind : Takes) (c : KeyCall K V Q) (gap : Gap) (told : MachineReply V) → So c.stands → So (absent_replied kind c gap told).0.stands
  absent_so takes.Values c gap (reply.Insert value) h = gap_so gap (with_absent c value)
  absent_so takes.Changes c gap (reply.Insert value) h = gap_so gap (with_absent c value)
  absent_so takes.Changes c gap reply.Remove h = ending_so c (ends.Refused RemoveNothing) refl
  absent_so takes.Changes c gap reply.Abort h = ending_so c (ends.Answered answers.Absent) refl
  absent_so takes.Changes c gap reply.Yes h = h
  absent_so takes.Changes c gap reply.No h = h
  absent_so takes.Values c gap reply.Remove h = h
  absent_so takes.Values c gap reply.Abort h = h
  absent_so takes.Values c gap reply.Yes h = h
  absent_so takes.Values c gap reply.No h = h
  absent_so takes.Nothing c gap told h = h
  absent_so takes.Choices c gap told h = h

  present_so : (kind : Takes) (c : KeyCall K V Q) (word : ℕ) (told : MachineReply V) → So c.stands → So (present_replied kind c word told).0.stands
  present_so takes.Values c word (reply.Insert value) h = asks (asking.Fills word)
  present_so takes.Changes c word (reply.Insert value) h = asks (asking.Fills word)
  present_so takes.Changes c word reply.Remove h = burying_so (with_present c word tells.Removes) word
  present_so takes.Changes c word reply.Abort h = ending_so c (ends.Answered (answers.Found word)) refl
  present_so takes.Changes c word reply.Yes h = h
  present_so takes.Changes c word reply.No h = h
  present_so takes.Choices c word reply.Yes h = burying_so c word
  present_so takes.Choices c word reply.No h = ending_so c (ends.Answered (answers.Found word)) refl
  present_so takes.Choices c word (reply.Insert value) h = h
  present_so takes.Choices c word reply.Remove h = h
  present_so takes.Choices c word reply.Abort h = h
  present_so takes.Values c word reply.Remove h = h
  present_so takes.Values c word reply.Abort h = h
  present_so takes.Values c word reply.Yes h = h
  present_so takes.Values c word reply.No h = h
  present_so takes.Nothing c word told h = h

  pub replied_so : (p : KeyCall K V Q) (asks_at : Asking) → p.stands ≡ at.Asks asks_at → (told : MachineReply V) → So (replied p told).0.stands
  replied_so p asks_at here told = subst (λ (x : Calling). So (replied_at x p told).0.stands) (sym here) (by asks_at)
    where
      stands : So p.stands
      stands = subst So (sym here) (asks asks_at)

      by : (a : Asking) → So (replied_at (at.Asks a) p told).0.stands
      by (asking.Absent gap) = absent_so p.replies.takes p gap told stands
      by (asking.Present word) = present_so p.replies.takes p word told stands
      by (asking.Fills word) = stands
      by (asking.GivesUp word) = stands

module _ {K V Q : Type 0} (same : K → K → Bool) (hash : K → ℕ) (asks : Q → K → Bool) (setting : Setting) (slot : ℕ → ℕ) (lawful : AreLawful same hash) (initial : IsPowerOfTwo setting.initial)
    (w : World (Node K V)) (c : Chart K) (blocks : Blocks) (sights : ℕ → Visible) (u : CallOnKey K V Q) (a : IsAlone same hash asks setting slot w c blocks sights (OnKey u))
    (asks_at : Asking) (is : u.call.stands ≡ at.Asks asks_at) where
  abbrev here : Setting
  here = in_slot setting (slot 0)

  abbrev seen : Blocks
  seen = seen_by blocks (sights (slot 0))

  no_row : IsRowOfCall u.call.stands → ⊥
  no_row row = subst IsRowOfCall is row

  known : own.KnowsHere same hash asks setting slot lawful w c blocks sights u a no_row
  known = own.knows_here same hash asks setting slot lawful w c blocks sights u a no_row

  map : IsMapIn same hash here w c seen
  map = own.map same hash asks setting slot lawful w c blocks sights u a

  tables : TablesAlone (is_incremental setting.mode) c
  tables = subst (AloneAtPoint (is_incremental setting.mode) c) is a.lone.point

  module _ (about : Option ℕ) (told : MachineReply V) (together2 : Together V same hash asks setting slot w c blocks sights (with_at a.calls 0 (Some (OnKey (replied_about u about told))))) where
    abbrev after : CallOnKey K V Q
    after = replied_about u about told

    has2 : with_at a.calls 0 (Some (OnKey after)) 0 ≡ Some (OnKey after)
    has2 = at_same a.calls 0 (Some (OnKey after)) 0 refl

    facts : CallFacts same hash asks w 0 here c seen u.keys u.change (replied u.call told).0
    facts = (replies_are_taken V same hash asks lawful here initial w 0 c seen u.keys u.change u.call map known.2 told).0

    first : (x : KnowsOfCall same hash asks here 0 w c seen u.keys u.began u.change (replied u.call told).0) → IsFirst x
    first (inl f) = tt
    first (inr (unchanged, late)) = never_both same hash asks here w 0 c seen seen map map u.keys u.change u.began (replied u.call told).0 facts late

    of_root : (x : IsAtPoint V same hash asks setting slot w c seen 0 (OnKey after)) → IsOfRoot same hash asks setting slot w c seen (OnKey after) x
    of_root (inl (rests, knows)) = first knows.facts
    of_root (inr (row, at_row, knows)) = absurd (no_row_rests (slot 0) (replied u.call told).0.stands at_row (sym known.0 ∙ row))

    told_alone : IsAlone same hash asks setting slot w c blocks sights (OnKey after)
    told_alone = record {
      calls = with_at a.calls 0 (Some (OnKey after));
      has = has2;
      others = λ i other. at_other a.calls 0 (Some (OnKey after)) i other ∙ a.others i other;
      together = together2;
      rows = a.rows;
      lone = record {
        idle = a.lone.idle;
        point = replied_so (AloneAtPoint (is_incremental setting.mode) c) (λ x. tables) (λ word new. tables) tables (λ p. tables) (λ p. tables) (λ end none. tables) (λ end none. tables) u.call asks_at is told;
      };
      inside = together2.inside 0 (OnKey after) has2;
      of_root = of_root (together2.stand 0 (OnKey after) has2);
    }

module _ {K V Q : Type 0} (same : K → K → Bool) (hash : K → ℕ) (asks : Q → K → Bool) (setting : Setting) (slot : ℕ → ℕ) where
  pub replies_lead_on : RepliesLeadOn V same hash asks setting slot
  replies_lead_on lawful initial w c blocks sights u a asks_at is =
      let law = replies_stand_together same hash asks setting slot lawful initial w c blocks sights a.calls a.together 0 u a.has asks_at is in
      (law.0, law.1, law.2, λ about of_it told. told_alone same hash asks setting slot lawful initial w c blocks sights u a asks_at is about told (law.3 about of_it told))

  pub replies_count_nothing : RepliesCountNothing V same hash asks setting slot
  replies_count_nothing p asks_at is reply =
      replied_so (λ (x : Calling). counted_at x ≡ 0) (λ x. refl) (λ word new. refl) refl (λ q. refl) (λ q. refl) (λ end none. none) (λ end none. none) p asks_at is reply ∙ sym (ap counted_at is)
