-- What a step tells, beside where it led: of each machine of the map.
use Rattle.std.specs.Prelude.{◌≡◌, ◌≢◌, ℕ, Bool, true, Option, ◌⊎◌}
use Rattle.map_rule.specs.Given.SeizeWordsDeclared.at.At.{At}
use Rattle.papaya_raw.specs.Given.SeizeWorld.{World}
use Rattle.papaya_raw.specs.Given.SeizeDeclared.advance.Advance.{Advance}
use Rattle.papaya_raw.specs.Given.SeizeDeclared.advance.Advance.TheVariants as progress
use Rattle.papaya_raw.specs.Given.SeizeDeclared.rows.settle.Settled.{Settled}
use Rattle.papaya_raw.specs.Given.SeizeDeclared.rows.settle.Settled.TheVariants as settled
use Rattle.papaya_raw.specs.Given.TablesChunks.{is_incremental}
use Rattle.papaya_raw.specs.Given.TablesDeclared.node.Node.{Node}
use Rattle.map_rule.specs.Given.ResizeDeclared.yielding.Yielding.{Yielding}
use Rattle.map_rule.specs.Given.ResizeDeclared.yielding.Yielding.TheVariants as outcome
use Rattle.papaya_raw.specs.Given.TablesDeclared.resize_mode.ResizeMode.{ResizeMode}
use Rattle.papaya_raw.specs.Given.TablesDeclared.setting.Setting.{Setting}
use Rattle.papaya_raw.specs.Given.TablesDeclared.table.Table.{Table}
use Rattle.papaya_raw.specs.declared.machines.answer.KeyAnswer.{KeyAnswer}
use Rattle.papaya_raw.specs.declared.machines.answer.KeyAnswer.TheVariants as answers
use Rattle.papaya_raw.specs.declared.machines.asking.Asking.TheVariants as asking
use Rattle.papaya_raw.specs.declared.machines.answer.Called.{Called}
use Rattle.papaya_raw.specs.declared.machines.answer.Called.TheVariants as called
use Rattle.papaya_raw.specs.declared.machines.answer.End.TheVariants as ends
use Rattle.papaya_raw.specs.declared.machines.call.KeyCall.{KeyCall}
use Rattle.papaya_raw.specs.declared.machines.call.Calling.{Calling}
use Rattle.papaya_raw.specs.declared.machines.call.Calling.TheVariants as at
use Rattle.map_rule.specs.Given.ResizeDeclared.copier.Copier.{Copier}
use Rattle.map_rule.specs.Given.ResizeDeclared.copier.Copying.{Copying}
use Rattle.map_rule.specs.Given.ResizeDeclared.copier.Copying.TheVariants as copies
use Rattle.map_rule.specs.Given.ResizeDeclared.dispose.Dispose.{Dispose}
use Rattle.map_rule.specs.Given.ResizeDeclared.dispose.Disposing.{Disposing}
use Rattle.map_rule.specs.Given.ResizeDeclared.dispose.Disposing.TheVariants as disposes
use Rattle.map_rule.specs.Given.ResizeDeclared.lookup.Lookup.{Lookup}
use Rattle.map_rule.specs.Given.ResizeDeclared.new_table.NewTable.{NewTable}
use Rattle.map_rule.specs.Given.ResizeDeclared.sum.Sum.{Sum}
use Rattle.map_rule.specs.Chart.{Chart}
use Rattle.map_rule.specs.Words.{Blocks}
use Rattle.map_rule.specs.Moves.{Move, Links, Stores, Replaces, Removes, after}
use Rattle.map_rule.specs.Maps.{spot_of, IsTable}
use Rattle.map_facts.specs.FactsTables.{SumFacts, IsMadeFor, NewTableFacts}
use Rattle.map_facts.specs.FactsLooks.{LookupFacts, Answers}
use Rattle.map_facts.specs.FactsDisposes.{DisposeFacts}
use Rattle.map_facts.specs.FactsCopies.{HasDone, ClaimsNone, CopierFacts}
use Rattle.map_facts.specs.FactsCopiesBlocking.{HasNoShares, CopierFactsBlocking}
use Rattle.map_facts.specs.FactsCalls.{IsCopying, Change, Unchanged, AnswersOf, AnswersChange, CallFacts, Changes}
use Rattle.map_facts.specs.FactsIdle.{IsIdle}

-- a counting goes on, or ends; it never waits, and is never refused
abbrev pub SumOutcome : Setting → Sum × Advance ℕ → Type 0
SumOutcome setting (sum, progress.Goes) = SumFacts setting sum
SumOutcome setting (sum, progress.Waits) = ⊥
SumOutcome setting (sum, progress.Done count) = Unit {0}
SumOutcome setting (sum, progress.Refused fault) = ⊥

module _ {K : Type 0} (same : K → K → Bool) (hash : K → ℕ) (mode : ResizeMode) (root : ℕ) (keys : K → Bool) (code : ℕ) (c : Chart K) (blocks : Blocks) where
  -- a lookup ends with what is so
  abbrev pub LookupOutcome : Lookup × Advance (Option ℕ) → Type 0
  LookupOutcome (l, progress.Goes) = LookupFacts same hash mode root keys code c blocks l
  LookupOutcome (l, progress.Waits) = ⊥
  LookupOutcome (l, progress.Done found) = Answers same hash mode root keys code c blocks found
  LookupOutcome (l, progress.Refused fault) = ⊥

module _ {K V : Type 0} (w : World (Node K V)) (caller : ℕ) (setting : Setting) (c : Chart K) (blocks : Blocks) where
  -- a making of a table ends with the table that stands there
  abbrev pub NewTableOutcome : At → ℕ → NewTable × Advance Table → Type 0
  NewTableOutcome link turn (n, progress.Goes) = NewTableFacts w caller setting c blocks link turn n
  NewTableOutcome link turn (n, progress.Waits) = ⊥
  NewTableOutcome link turn (n, progress.Done table) = IsMadeFor setting c blocks link turn table
  NewTableOutcome link turn (n, progress.Refused fault) = Unit {0}

  -- a disposal goes on, or ends; it never waits, and reclaims nothing itself
  abbrev pub DisposeOutcome : Dispose × Settled (Node K V) → Type 0
  DisposeOutcome (d, settled.Goes) = DisposeFacts w caller setting c blocks d
  DisposeOutcome (d, settled.Waits) = ⊥
  DisposeOutcome (d, settled.Gave value) = ⊥
  DisposeOutcome (d, settled.Done) = Unit {0}

  module _ (same : K → K → Bool) (hash : K → ℕ) where
    -- in incremental mode, a copier waits only if it copies a whole table, and at its end it is to copy nothing, and has nothing to count
    abbrev pub CopierOutcome : Copier × Yielding (Node K V) Table → Type 0
    CopierOutcome (p, outcome.Goes) = CopierFacts same hash w caller setting c blocks p
    CopierOutcome (p, outcome.Waits) = (p.whole ≡ true) × CopierFacts same hash w caller setting c blocks p
    CopierOutcome (p, outcome.Gave value) = ⊥
    CopierOutcome (p, outcome.Done table) = HasDone same hash w caller setting c blocks 0 × ClaimsNone same hash w caller setting c blocks
    CopierOutcome (p, outcome.Refused fault) = HasDone same hash w caller setting c blocks 0 × ClaimsNone same hash w caller setting c blocks

    -- in blocking mode, its end is the root, and at its end it has no part in any copying
    abbrev pub CopierOutcomeBlocking : Copier × Yielding (Node K V) Table → Type 0
    CopierOutcomeBlocking (p, outcome.Goes) = CopierFactsBlocking same hash w caller setting c blocks p
    CopierOutcomeBlocking (p, outcome.Waits) = CopierFactsBlocking same hash w caller setting c blocks p
    CopierOutcomeBlocking (p, outcome.Gave value) = ⊥
    CopierOutcomeBlocking (p, outcome.Done table) = IsTable c blocks table c.first × HasNoShares same hash w caller setting c blocks
    CopierOutcomeBlocking (p, outcome.Refused fault) = HasNoShares same hash w caller setting c blocks

-- the steps in which a row of the collector is under way, or begins
abbrev pub IsRowOf : Disposing → Type 0
IsRowOf (disposes.Settles settle) = Unit {0}
IsRowOf (disposes.Defers defer) = Unit {0}
IsRowOf _ = ⊥

-- those of a copier
abbrev pub IsRowOfCopier : Copying → Type 0
IsRowOfCopier (copies.Retires settle rest) = Unit {0}
IsRowOfCopier _ = ⊥

-- and those of a call, by the machine that is inside it
abbrev pub IsRowOfCall : Calling → Type 0
IsRowOfCall (at.Disposes dispose answer) = IsRowOf dispose.stands
IsRowOfCall (at.Helps copier goal) = IsRowOfCopier copier.stands
IsRowOfCall (at.Copies copier) = IsRowOfCopier copier.stands
IsRowOfCall _ = ⊥

-- It has answered, or is to, once it has given up its own block; or it asks, and is to answer so if nothing is to change.
abbrev pub HasAnswered : KeyAnswer → Calling → Type 0
HasAnswered answer (at.Asks (asking.Absent gap)) = answer ≡ answers.Absent
HasAnswered answer (at.Asks (asking.Present word)) = answer ≡ answers.Found word
HasAnswered answer (at.Drops end) = end ≡ ends.Answered answer
HasAnswered answer (at.Over end) = end ≡ ends.Answered answer
HasAnswered answer _ = ⊥

-- beside its copying a call links a table, or stores, replaces or removes a pair
abbrev pub IsBesideCopying : {K : Type 0} → Move K → Type 0
IsBesideCopying (Links len limit) = Unit {0}
IsBesideCopying (Stores t k j) = Unit {0}
IsBesideCopying (Replaces t place k) = Unit {0}
IsBesideCopying (Removes t place) = Unit {0}
IsBesideCopying _ = ⊥

-- no move was made, or such a one
abbrev pub MovedBesideCopying : {K : Type 0} → (K → ℕ) → ResizeMode → Chart K → Chart K → Type 0
MovedBesideCopying {K} hash mode c c2 = (c2 ≡ c) ⊎ ((move : Move K) × IsBesideCopying move × (c2 ≡ after (spot_of hash) (is_incremental mode) move c))

module _ {K V Q : Type 0} (same : K → K → Bool) (hash : K → ℕ) (asks : Q → K → Bool) (caller : ℕ) (setting : Setting) (keys : K → Bool) where
  -- at its end it has no part in a copying, and its answer tells its change, if it made one
  abbrev pub CallFactsAfter : World (Node K V) → Chart K → Blocks → Change → KeyCall K V Q → Called (Node K V) → Type 0
  CallFactsAfter w c blocks change p (called.Done answer) =
      HasAnswered answer p.stands × IsIdle same hash w caller setting c blocks
      × ((change ≡ Unchanged) ⊎ AnswersChange same hash asks w caller setting c blocks keys change change answer)
  CallFactsAfter w c blocks change p (called.Gave value) = ⊥
  CallFactsAfter w c blocks change p (called.Refused fault) = IsIdle same hash w caller setting c blocks × (change ≡ Unchanged)
  CallFactsAfter w c blocks change p progress = CallFacts same hash asks w caller setting c blocks keys change p

  -- A call changes its map in one step at most. What it answers, or asks, is told at the step that comes to it: the change that it made, or what is so
  -- where it made none.
  pub record CallOutcome (c : Chart K) (change : Change) (p : KeyCall K V Q) (w2 : World (Node K V)) (c2 : Chart K) (blocks2 : Blocks) (p2 : KeyCall K V Q) (progress : Called (Node K V)) : Type 0 where
    pub change2 : Change
    pub facts : CallFactsAfter w2 c2 blocks2 change2 p2 progress
    pub changes : ((change2 ≡ change) × (c2.current ≡ c.current)) ⊎ ((change ≡ Unchanged) × Changes same hash (is_incremental setting.mode) keys c c2 change2)
    pub beside : (IsCopying p.stands → ⊥) → MovedBesideCopying hash setting.mode c c2
    pub answers : (answer : KeyAnswer) → HasAnswered answer p2.stands → (HasAnswered answer p.stands → ⊥) → change2 ≡ Unchanged
        → AnswersOf same hash asks w2 caller setting c2 blocks2 keys change2 answer
    pub tells : (answer : KeyAnswer) → HasAnswered answer p2.stands → (HasAnswered answer p.stands → ⊥) → change2 ≢ Unchanged
        → AnswersChange same hash asks w2 caller setting c2 blocks2 keys change2 change2 answer

-- no move was made, or a table was linked
abbrev pub OnlyLinks : {K : Type 0} → (K → ℕ) → ResizeMode → Chart K → Chart K → Type 0
OnlyLinks hash mode c c2 = (c2 ≡ c) ⊎ ((len : ℕ) × (limit : ℕ) × (c2 ≡ after (spot_of hash) (is_incremental mode) (Links len limit) c))

-- no move was made, or the table with this turn was linked behind all others, and the step ended with it
abbrev pub LinksLast : {K : Type 0} → (K → ℕ) → ResizeMode → ℕ → Chart K → Chart K → NewTable × Advance Table → Type 0
LinksLast hash mode turn c c2 end =
    (c2 ≡ c)
    ⊎ ((turn ≡ c.past) × (table : Table) × (end.1 ≡ progress.Done table) × (c2 ≡ after (spot_of hash) (is_incremental mode) (Links table.len table.limit) c))
