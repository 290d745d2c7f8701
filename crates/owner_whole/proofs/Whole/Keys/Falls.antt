-- The numbers of a call with those of its row: each of its own steps that goes on lowers them.
use Rattle.std.specs.Prelude.{◌≡◌, ℕ, ◌+◌, ◌<◌, Bool, List, [], ◌∷◌, ◌++◌, length}
use Rattle.std.specs.Int.{IsPowerOfTwo}
use Rattle.std.proofs.Common.{inl, inr, refl, ap, subst, ◌∙◌, length-append}
use Rattle.seize_words.specs.OneMemory.Mem.{Mem, Took, value_at}
use Rattle.seize_words.specs.OneMemory.Plan.{Steps}
use Rattle.seize.specs.World.{World, Row, Settles, Defers}
use Rattle.map_measures.proofs.Given.SeizeEndsRows.Defer.{defer_to_go}
use Rattle.map_measures.proofs.Given.SeizeEndsSettling.Most.{settle_to_go}
use Rattle.map_tables.specs.Nodes.{deferred_word}
use Rattle.map_tables.specs.declared.node.Node.{Node}
use Rattle.map_tables.specs.declared.setting.Setting.{Setting}
use Rattle.papaya_raw.specs.Call.{call_plan, plan_at}
use Rattle.papaya_raw.specs.declared.machines.answer.Called.{Called}
use Rattle.papaya_raw.specs.declared.machines.answer.Called.TheVariants as called
use Rattle.papaya_raw.specs.declared.machines.answer.End.{End}
use Rattle.papaya_raw.specs.declared.machines.answer.End.TheVariants as over
use Rattle.papaya_raw.specs.declared.machines.call.KeyCall.{KeyCall}
use Rattle.papaya_raw.specs.declared.machines.call.Calling.{Calling}
use Rattle.papaya_raw.specs.declared.machines.call.Calling.TheVariants as at
use Rattle.map_measures.specs.Given.RuleChart.{Chart}
use Rattle.map_measures.specs.Given.RuleWords.{Blocks}
use Rattle.map_measures.specs.Given.RuleInWorld.{StepSpec}
use Rattle.owner_facts.specs.Given.PointsFactsCalls.{Change}
use Rattle.map_measures.specs.Given.PointsMeasures.{IsBelow}
use Rattle.owner_facts.specs.Given.PointsSteps.{AreLawful}
use Rattle.owner_facts.specs.Given.PointsTold.{IsRowOfCall}
use Rattle.owner_facts.specs.Alone.Endings.{runs_end}
use Rattle.map_measures.specs.Falls.Calls.{number_of_call}
use Rattle.map_measures.proofs.Falls.Laws.{calls_fall}
use Rattle.map_measures.specs.Given.CallersRows.{row_of}
use Rattle.owner_facts.specs.Given.CallersSights.{Visible, seen_by}
use Rattle.owner_facts.specs.Given.CallersTogether.{CallOnKey, OnKey}
use Rattle.owner_whole.specs.Whole.Owner.{IsAlone}
use Rattle.owner_whole.specs.Whole.Whole.{then_so, Continues, Terminates}
use Rattle.owner_whole.proofs.Whole.Joined.{same_joined, links_joined}
use Rattle.owner_whole.proofs.Whole.Keys.Own as own
use Rattle.map_measures.proofs.Falls.Below.{below_followed as lower_more}
use Rattle.map_measures.proofs.Falls.Calls.Lengths.{numbers_are_as_many}

-- how much a row has left to do
abbrev pub row_left : {K V : Type 0} → Row → Mem (Node K V) → ℕ
row_left (Settles settle) m = settle_to_go deferred_word m settle
row_left (Defers s defer) m = defer_to_go m defer
row_left _ m = 0

-- the numbers of a call, and then that one
abbrev pub number_all : {K V Q : Type 0} → (K → ℕ) → ℕ → Chart K → Blocks → KeyCall K V Q → Mem (Node K V) → List ℕ
number_all hash slot c blocks p m = number_of_call hash c blocks p ++ (row_left (row_of slot p.stands) m ∷ [])

pub all_as_many : {K V Q : Type 0} (hash : K → ℕ) (slot : ℕ) (c : Chart K) (blocks : Blocks) (p : KeyCall K V Q) (m : Mem (Node K V)) → length (number_all hash slot c blocks p m) ≡ 15
all_as_many hash slot c blocks p m =
    length-append (number_of_call hash c blocks p) (row_left (row_of slot p.stands) m ∷ []) ∙ ap (λ (x : ℕ). x + 1) (numbers_are_as_many hash c blocks p)

pub lower_last : (xs : List ℕ) (a b : ℕ) → a < b → IsBelow (xs ++ (a ∷ [])) (xs ++ (b ∷ []))
lower_last [] a b l = inl l
lower_last (x ∷ xs) a b l = inr (refl, lower_last xs a b l)

-- a call that is over has no step left but the last
pub over_ends : {K V Q : Type 0} (same : K → K → Bool) (hash : K → ℕ) (asks : Q → K → Bool) (p : KeyCall K V Q) (m : Mem (Node K V)) (end : End) → p.stands ≡ at.Over end → Terminates same hash asks p m
over_ends {K} {V} {Q} same hash asks p m end is =
    runs_end (p, m) (λ y s. absurd (none s.0 s.1 end (subst (λ (x : Calling). Steps Took value_at m (plan_at asks same hash p x) y.1 (y.0, s.0)) is s.2)))
  where
    none : {m2 : Mem (Node K V)} {p2 : KeyCall K V Q} (told : Called (Node K V)) → Continues told → (end : End) → Steps Took value_at m (plan_at asks same hash p (at.Over end)) m2 (p2, told) → ⊥
    none told more (over.Answered answer) s = subst Continues (ap (λ (x : KeyCall K V Q × Called (Node K V)). x.1) s.1) more
    none told more (over.Refused fault) s = subst Continues (ap (λ (x : KeyCall K V Q × Called (Node K V)). x.1) s.1) more

module _ {K V Q : Type 0} (same : K → K → Bool) (hash : K → ℕ) (asks : Q → K → Bool) (setting : Setting) (slot : ℕ → ℕ) (lawful : AreLawful same hash)
    (w : World (Node K V)) (c : Chart K) (blocks : Blocks) (sights : ℕ → Visible) (u : CallOnKey K V Q) (a : IsAlone same hash asks setting slot w c blocks sights (OnKey u))
    (none : IsRowOfCall u.call.stands → ⊥) (initial : IsPowerOfTwo setting.initial) (m2 : Mem (Node K V)) (p2 : KeyCall K V Q) where
  -- where a step of its own goes on, it is alone, with lower numbers
  pub record OwnFalls : Type 0 where
    pub w2 : World (Node K V)
    pub c2 : Chart K
    pub blocks2 : Blocks
    pub sights2 : ℕ → Visible
    pub change2 : Change
    pub memory : w2.memory ≡ m2
    pub alone : IsAlone same hash asks setting slot w2 c2 blocks2 sights2 (OnKey (then_so u change2 p2))
    pub lower : IsBelow (number_all hash (slot 0) c2 (seen_by blocks2 (sights2 (slot 0))) p2 w2.memory) (number_all hash (slot 0) c (seen_by blocks (sights (slot 0))) u.call w.memory)

  module _ (st : Steps Took value_at w.memory (call_plan asks same hash u.call) m2 (p2, called.Goes)) where
    abbrev lone : own.LoneHere same hash asks setting slot lawful w c blocks sights u a none initial m2 p2 called.Goes
    lone = own.lone same hash asks setting slot lawful w c blocks sights u a none initial m2 p2 called.Goes st

    abbrev seen2 : Blocks
    seen2 = own.seen2 same hash asks setting slot lawful w c blocks sights u a none initial m2 p2 called.Goes st

    -- the same step, by all that is seen then
    abbrev to : StepSpec same hash (own.here same hash asks setting slot lawful w c blocks sights u a) 0 w c (own.seen same hash asks setting slot lawful w c blocks sights u a) m2 (λ w2 c2 blocks2. Unit {0})
    to = record {
      w2 = lone.w2;
      c2 = lone.c2;
      blocks2 = seen2;
      events = lone.events;
      users = lone.users;
      its = lone.its;
      runs = lone.runs;
      memory = lone.memory;
      frame = lone.frame;
      tables = lone.tables;
      links = links_joined c (own.seen same hash asks setting slot lawful w c blocks sights u a) lone.blocks2 lone.blocks_same 0 w lone.w2 lone.c2 lone.links;
      spares = lone.spares;
      moved = lone.moved;
      map = own.map2 same hash asks setting slot lawful w c blocks sights u a none initial m2 p2 called.Goes st;
      blocks_same = same_joined c (own.seen same hash asks setting slot lawful w c blocks sights u a) lone.blocks2;
      told = tt;
    }

    pub own_falls : OwnFalls
    own_falls = record {
      w2 = lone.w2;
      c2 = lone.c2;
      blocks2 = (own.stepped same hash asks setting slot lawful w c blocks sights u a none initial m2 p2 called.Goes st).blocks2;
      sights2 = (own.stepped same hash asks setting slot lawful w c blocks sights u a none initial m2 p2 called.Goes st).sights2;
      change2 = lone.told.0.change2;
      memory = lone.memory;
      alone = own.still_alone same hash asks setting slot lawful w c blocks sights u a none initial m2 p2 called.Goes st lone.told.0.facts (lone.told.1 a.lone) refl;
      lower = lower_more (number_of_call hash lone.c2 seen2 p2) (number_of_call hash c (seen_by blocks (sights (slot 0))) u.call) _ _
          (calls_fall V same hash asks lawful (own.here same hash asks setting slot lawful w c blocks sights u a) w 0 c (own.seen same hash asks setting slot lawful w c blocks sights u a) u.keys u.change u.call
          (own.map same hash asks setting slot lawful w c blocks sights u a) (own.knows_here same hash asks setting slot lawful w c blocks sights u a none).2 none m2 (p2, called.Goes) st tt to);
    }
