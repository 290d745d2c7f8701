-- Where the owner rests, each call on one key begins alone.
use Rattle.std.specs.Prelude.{◌≡◌, ℕ, ◌<◌, ◌≤◌, ◌^◌, ◌⊎◌, Bool, length, slice_index_or, Option, Some, None}
use Rattle.std.proofs.Common.{inl, inr, refl, sym, ◌∙◌, arith}
use Rattle.std.proofs.lemmas.Bool.{cases_lt}
use Rattle.seize.specs.World.{World, Rests, with_at}
use Rattle.map_tables.specs.Chunks.{is_incremental}
use Rattle.map_tables.specs.declared.node.Node.{Node}
use Rattle.map_tables.specs.declared.setting.Setting.{Setting}
use Rattle.papaya_raw.specs.declared.machines.call.KeyCall.{KeyCall}
use Rattle.map_measures.specs.Given.RuleChart.{Chart}
use Rattle.map_measures.specs.Given.RuleWords.{Blocks}
use Rattle.owner_facts.specs.Given.PointsSteps.{AreLawful}
use Rattle.owner_facts.specs.Given.LateLateCalls.{SupersededCallFacts}
use Rattle.owner_facts.specs.Alone.FactsAloneCalls.{TablesAlone, AloneAtPoint}
use Rattle.map_measures.specs.Given.CallersPairs.{Given}
use Rattle.map_measures.specs.Given.CallersRows.{row_of}
use Rattle.owner_facts.specs.Given.CallersSights.{Visible, seen_by}
use Rattle.owner_facts.specs.Given.CallersTogether.{UnderWay, CallOnKey, OnKey, FewWith, IsBegun, Gets, Removes, Inserts, TriesToInsert, Computes, Updates, UpdatesOrInserts, TriesToInsertWith, RemovesIf, begun_at, in_slot, IsAtPoint, Together}
use Rattle.owner_facts.proofs.Given.CallersTogether.At.{at_other, at_same}
use Rattle.owner_facts.proofs.Given.CallersTogether.Begins.{begins_together}
use Rattle.owner_facts.proofs.Given.CallersTogether.FactsOn.{KnowsOfCall}
use Rattle.owner_whole.specs.Whole.Owner.{IsFirst, IsOfRoot, IsQuiescent, IsAlone}
use Rattle.owner_whole.specs.Whole.Whole.{CallsBeginAlone}
use Rattle.owner_whole.proofs.Whole.Rows.Standing.{no_row_rests}

-- one caller is few
pub one_few : {K V Q : Type 0} (calls : ℕ → Option (UnderWay K V Q)) → ((i : ℕ) → calls i ≡ None) → (u : UnderWay K V Q) → FewWith calls 0 u
one_few calls none u callers apart all = by (cases_lt 1 (length callers))
  where
    first : (k : ℕ) → k < length callers → slice_index_or callers k 0 ≡ 0
    first k l = elim (all k 0 l) as (λ _. slice_index_or callers k 0 ≡ 0) [
      | inl its ↦ its.0
      | inr has ↦ absurd (let is = has.1 in let no = none (slice_index_or callers k 0) in cc (is, no))
    ]

    by : (1 < length callers) ⊎ (length callers ≤ 1) → length callers ≤ 2 ^ 32
    by (inl l) = absurd (apart 0 1 0 (omega arith) l (first 0 (omega (arith, l)) ∙ sym (first 1 l)))
    by (inr l) = omega (arith, l)

module _ {K V Q : Type 0} (same : K → K → Bool) (hash : K → ℕ) (asks : Q → K → Bool) (setting : Setting) (slot : ℕ → ℕ) where
  -- a call that begins copies nothing yet
  begun_lone : (incremental : Bool) (c : Chart K) → TablesAlone incremental c → (keys : K → Bool) (pair : Given K V) (call : KeyCall K V Q) → IsBegun V same hash asks setting slot 0 keys pair call
      → AloneAtPoint incremental c call.stands
  begun_lone incremental c tables _ _ _ (Gets q code fits class) = tables
  begun_lone incremental c tables _ _ _ (Removes q code fits class) = tables
  begun_lone incremental c tables _ _ _ (Inserts key value) = tables
  begun_lone incremental c tables _ _ _ (TriesToInsert key value) = tables
  begun_lone incremental c tables _ _ _ (Computes key) = tables
  begun_lone incremental c tables _ _ _ (Updates key) = tables
  begun_lone incremental c tables _ _ _ (UpdatesOrInserts key absent) = tables
  begun_lone incremental c tables _ _ _ (TriesToInsertWith key) = tables
  begun_lone incremental c tables _ _ _ (RemovesIf q code fits class) = tables

  -- it has entered no table, so it has none that the root has left
  module _ (w : World (Node K V)) (c : Chart K) (seen : Blocks) (began : ℕ) where
    abbrev Late : (K → Bool) → KeyCall K V Q → Type 0
    Late keys call = SupersededCallFacts same hash asks w 0 (in_slot setting (slot 0)) c seen keys began call

    begun_late : (keys : K → Bool) (pair : Given K V) (call : KeyCall K V Q) → IsBegun V same hash asks setting slot 0 keys pair call → Late keys call → ⊥
    begun_late _ _ _ (Gets q code fits class) late = late.point.6.point
    begun_late _ _ _ (Removes q code fits class) late = late.point
    begun_late _ _ _ (Inserts key value) late = late.point
    begun_late _ _ _ (TriesToInsert key value) late = late.point
    begun_late _ _ _ (Computes key) late = late.point
    begun_late _ _ _ (Updates key) late = late.point
    begun_late _ _ _ (UpdatesOrInserts key absent) late = late.point
    begun_late _ _ _ (TriesToInsertWith key) late = late.point
    begun_late _ _ _ (RemovesIf q code fits class) late = late.point

  -- nor does it stand at a row
  begun_row : (s : ℕ) (keys : K → Bool) (pair : Given K V) (call : KeyCall K V Q) → IsBegun V same hash asks setting slot 0 keys pair call → row_of s call.stands ≡ Rests
  begun_row s _ _ _ (Gets q code fits class) = refl
  begun_row s _ _ _ (Removes q code fits class) = refl
  begun_row s _ _ _ (Inserts key value) = refl
  begun_row s _ _ _ (TriesToInsert key value) = refl
  begun_row s _ _ _ (Computes key) = refl
  begun_row s _ _ _ (Updates key) = refl
  begun_row s _ _ _ (UpdatesOrInserts key absent) = refl
  begun_row s _ _ _ (TriesToInsertWith key) = refl
  begun_row s _ _ _ (RemovesIf q code fits class) = refl

  module _ (lawful : AreLawful same hash) (w : World (Node K V)) (c : Chart K) (blocks : Blocks) (sights : ℕ → Visible) (a : IsQuiescent {Q = Q} same hash asks setting slot w c blocks sights)
      (keys : K → Bool) (pair : Given K V) (call : KeyCall K V Q) (begun : IsBegun V same hash asks setting slot 0 keys pair call) where
    abbrev it : CallOnKey K V Q
    it = begun_at V same hash asks setting slot c keys pair call

    abbrev calls2 : ℕ → Option (UnderWay K V Q)
    calls2 = with_at a.calls 0 (Some (OnKey it))

    abbrev seen : Blocks
    seen = seen_by blocks (sights (slot 0))

    has2 : calls2 0 ≡ Some (OnKey it)
    has2 = at_same a.calls 0 (Some (OnKey it)) 0 refl

    together2 : Together V same hash asks setting slot w c blocks sights calls2
    together2 = begins_together same hash asks setting slot w c blocks sights a.calls 0 lawful a.together (a.none 0) (a.rows 0) a.inside keys pair call begun (λ blocking. one_few a.calls a.none (OnKey it))

    first : (x : KnowsOfCall same hash asks (in_slot setting (slot 0)) 0 w c seen it.keys it.began it.change call) → IsFirst x
    first (inl facts) = tt
    first (inr (none, late)) = begun_late w c seen c.now keys pair call begun late

    of_root : (x : IsAtPoint V same hash asks setting slot w c seen 0 (OnKey it)) → IsOfRoot same hash asks setting slot w c seen (OnKey it) x
    of_root (inl (rests, knows)) = first knows.facts
    of_root (inr (row, at_row, knows)) = absurd (no_row_rests (slot 0) call.stands at_row (sym (begun_row (slot 0) keys pair call begun)))

    begun_alone : IsAlone same hash asks setting slot w c blocks sights (OnKey it)
    begun_alone = record {
      calls = calls2;
      has = has2;
      others = λ i other. at_other a.calls 0 (Some (OnKey it)) i other ∙ a.none i;
      together = together2;
      rows = λ i other. a.rows i;
      lone = record { idle = a.alone.idle; point = begun_lone (is_incremental setting.mode) c a.alone.tables keys pair call begun };
      inside = together2.inside 0 (OnKey it) has2;
      of_root = of_root (together2.stand 0 (OnKey it) has2);
    }

  pub calls_begin_alone : CallsBeginAlone V same hash asks setting slot
  calls_begin_alone = begun_alone
