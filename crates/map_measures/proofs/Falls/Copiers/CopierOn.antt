-- What is to be shown of a step of a copier, in either mode, and which tables it leaves as they were.
use Rattle.std.specs.Prelude.{◌+◌, ◌%◌, ◌/◌, max, List, IsSome, Bool}
use Rattle.std.proofs.Common.{◌≡◌, ◌≢◌, ℕ, ◌^◌, ◌<◌, ◌≤◌, ◌⊎◌, inr, sym, subst, arith}
use Rattle.seize_words.specs.declared.at.At.TheVariants.{Root}
use Rattle.seize_words.specs.OneMemory.Mem.{Mem, word_at, with_word}
use Rattle.map_tables.specs.TablePlaces.{at_place, at_word}
use Rattle.map_tables.specs.declared.node.Node.{Node}
use Rattle.map_tables.specs.declared.setting.Setting.{Setting}
use Rattle.map_tables.specs.declared.table.Table.{Table}
use Rattle.map_tables.specs.declared.table_words.TheConstants.{NEXT, PLACES}
use Rattle.map_machines.specs.declared.yielding.Yielding.{Yielding}
use Rattle.map_machines.specs.declared.yielding.Yielding.TheVariants as outcome
use Rattle.map_machines.specs.declared.copier.Copier.{Copier}
use Rattle.map_machines.specs.declared.copier.Copying.{Copying as Point}
use Rattle.many_calls.specs.Given.RuleChart.{Chart}
use Rattle.many_calls.specs.Given.RuleWords.{Blocks}
use Rattle.many_calls.specs.Given.PointsMeasures.{IsBelow}
use Rattle.map_measures.specs.Falls.Room.{last_turn, planned_in_copying}
use Rattle.map_measures.proofs.Falls.Onward.{Onward, past_kept}
use Rattle.map_measures.proofs.Falls.Kept.{keeps_still, keeps_wrote, keeps_root}

module _ (past past2 : ℕ) (before : Point → List ℕ) (after : Copier → List ℕ) where
  -- a table was linked that was planned, or none was, and the number is lower
  abbrev pub FallsTo : Point → Copier → Type 0
  FallsTo stands q =
      ((past ≤ planned_in_copying stands) × (past < past2) × (planned_in_copying q.stands ≤ last_turn))
      ⊎ ((past2 ≡ past) × (planned_in_copying q.stands ≤ max last_turn (planned_in_copying stands)) × IsBelow (after q) (before stands))

  -- no table is made within it, and its number is lower
  abbrev pub Lowered : List ℕ → Copier → Type 0
  Lowered xs q = (planned_in_copying q.stands ≡ 0) × IsBelow (after q) xs

  module _ {K V : Type 0} (p : Copier) where
    -- where a step led from there
    abbrev pub CopierOn : Point → Copier × Yielding (Node K V) Table → Type 0
    CopierOn stands (q, outcome.Goes) = FallsTo stands q
    CopierOn stands (q, outcome.Done table) = (past2 ≡ past) × (table ≡ p.target)
    CopierOn stands (q, outcome.Waits) = Unit {0}
    CopierOn stands (q, outcome.Gave value) = FallsTo stands q
    CopierOn stands (q, outcome.Refused fault) = Unit {0}

    pub by_end : (stands : Point) (end e : Copier × Yielding (Node K V) Table) → end ≡ e → CopierOn stands e → CopierOn stands end
    by_end stands end e is = subst (λ (x : Copier × Yielding (Node K V) Table). CopierOn stands x) (sym is)

    pub plain : (stands : Point) (end : Copier × Yielding (Node K V) Table) (q : Copier) → end ≡ (q, outcome.Goes) → past2 ≡ past → Lowered (before stands) q → CopierOn stands end
    plain stands end q is same lowered = by_end stands end (q, outcome.Goes) is (inr (same, (let none = lowered.0 in omega (arith, none)), lowered.1))

module _ {K V : Type 0} (same : K → K → Bool) (hash : K → ℕ) (setting : Setting) (m : Mem (Node K V)) (c : Chart K) (blocks : Blocks) (m2 : Mem (Node K V)) (c2 : Chart K) (blocks2 : Blocks)
    (on : Onward same hash setting m c blocks m2 c2 blocks2) where
  -- no table is linked by a step that writes nothing,
  pub past_still : m2 ≡ m → c2.past ≡ c.past
  past_still is = past_kept same hash setting m c blocks m2 c2 blocks2 on (keeps_still setting.root c blocks m m2 is)

  -- nor by one that writes a word of a table that is no link,
  pub past_word : (table : Table) (number w : ℕ) → m2 ≡ with_word m (at_word table number) w → IsSome (word_at m (at_word table number)) → number ≢ NEXT → c2.past ≡ c.past
  past_word table number w is some other =
      past_kept same hash setting m c blocks m2 c2 blocks2 on (keeps_wrote setting.root c blocks m (table.link / 2048) number w m2 is some other)

  -- that of a place,
  pub past_place : (table : Table) (place w : ℕ) → m2 ≡ with_word m (at_place table place) w → IsSome (word_at m (at_place table place)) → place < 2 ^ 48 → c2.past ≡ c.past
  past_place table place w is some low =
      past_kept same hash setting m c blocks m2 c2 blocks2 on
      (keeps_wrote setting.root c blocks m (table.link / 2048) ((place + PLACES) % 2 ^ 64) w m2 is some (λ e. omega (arith, e, low)))

  -- or that of the root of a map that has one
  pub past_root : (r w : ℕ) → m2 ≡ with_word m (Root r) w → IsSome (word_at m (Root r)) → 0 < c.past → c2.past ≡ c.past
  past_root r w is some made = past_kept same hash setting m c blocks m2 c2 blocks2 on (keeps_root setting.root c blocks m r w m2 is some made)
