-- A call that looks at its own pair as it meets a word goes on with that pair, which is its caller's then.
use Rattle.std.specs.Prelude.{◌≢◌, ◌==◌, ◌/◌, ◌^◌, ◌<◌, Option, Some, None, if◌then◌else◌}
use Rattle.std.proofs.Common.{◌≡◌, ℕ, Bool, true, false, inl, inr, refl, sym, subst, ap, arith, ◌∙◌}
use Rattle.std.proofs.lemmas.Bool.{eq-eqb}
use Rattle.run_shows.specs.Given.SeizeWordsMem.{value_at}
use Rattle.run_shows.specs.Given.SeizeWorld.{World, Making}
use Rattle.run_shows.specs.Given.TablesNodes.{vacant}
use Rattle.run_shows.specs.Given.TablesChunks.{is_incremental}
use Rattle.run_shows.specs.Given.TablesFinding.{finding}
use Rattle.run_shows.specs.Given.TablesTrials.{next_trial, with_met}
use Rattle.run_shows.specs.Given.TablesDeclared.finding.Finding.{Finding}
use Rattle.run_shows.specs.Given.TablesDeclared.finding.Finding.TheVariants as is
use Rattle.run_shows.specs.Given.TablesDeclared.marks.TheConstants.{TOMBSTONE}
use Rattle.run_shows.specs.Given.TablesDeclared.node.Node.{Node}
use Rattle.run_shows.specs.Given.TablesDeclared.node.Node.TheVariants.{Pair, Shards}
use Rattle.run_shows.specs.Given.TablesDeclared.setting.Setting.{Setting}
use Rattle.run_shows.specs.Given.TablesDeclared.trial.Trial.{Trial}
use Rattle.run_shows.specs.Given.RawCallPoints.{going, over, ending, storing, burying, at_gap, gap_by, pair_by, at_free, at_end, beyond, at_pair, having_met, passed, halted, after_finding, told, aim_of}
use Rattle.run_shows.specs.Given.RawDeclared.machines.answer.Called.{Called}
use Rattle.run_shows.specs.Given.RawDeclared.machines.answer.Called.TheVariants as called
use Rattle.run_shows.specs.Given.RawDeclared.machines.answer.End.{End}
use Rattle.run_shows.specs.Given.RawDeclared.machines.answer.End.TheVariants as ends
use Rattle.run_shows.specs.Given.RawDeclared.machines.answer.KeyAnswer.TheVariants as answers
use Rattle.run_shows.specs.Given.RawDeclared.machines.answer.Missing.{Missing}
use Rattle.run_shows.specs.Given.RawDeclared.machines.answer.Missing.TheVariants as missing
use Rattle.run_shows.specs.Given.RawDeclared.machines.answer.There.{There}
use Rattle.run_shows.specs.Given.RawDeclared.machines.answer.There.TheVariants as there
use Rattle.run_shows.specs.Given.RawDeclared.machines.asking.Asking.{Asking}
use Rattle.run_shows.specs.Given.RawDeclared.machines.asking.Asking.TheVariants as asking
use Rattle.run_shows.specs.Given.RawDeclared.machines.asking.Gap.{Gap}
use Rattle.run_shows.specs.Given.RawDeclared.machines.asking.Gap.TheVariants as gaps
use Rattle.run_shows.specs.Given.RawDeclared.machines.asking.Told.{Told}
use Rattle.run_shows.specs.Given.RawDeclared.machines.asking.Told.TheVariants as tells
use Rattle.run_shows.specs.Given.RawDeclared.machines.call.Calling.{Calling}
use Rattle.run_shows.specs.Given.RawDeclared.machines.call.Calling.TheVariants as at
use Rattle.run_shows.specs.Given.RawDeclared.machines.call.KeyCall.{KeyCall}
use Rattle.run_shows.specs.Given.RuleChart.{Chart}
use Rattle.run_shows.specs.Given.RuleWords.{Blocks}
use Rattle.owner_facts.specs.Given.PointsFactsCalls.{Change, Unchanged, Holding, Apart, InBlock, ByReply, holding, HasOwn, HasIts, IsOwnPair, IsVacant, CallingFacts, AskingFacts}
use Rattle.owner_facts.specs.Given.PointsTold.{IsRowOfCall}
use Rattle.owner_facts.specs.Given.LateLateCalls.{SupersededAsking, SupersededCalling}
use Rattle.owner_facts.proofs.Given.PointsCalls.Probes.{own_block}
use Rattle.many_acts.specs.Looks.Sees.{IsToStore}

-- further steps are needed
abbrev pub IsOn : {K V : Type 0} → Called (Node K V) → Type 0
IsOn called.Goes = Unit {0}
IsOn called.Waits = Unit {0}
IsOn (called.Asks about) = Unit {0}
IsOn _ = ⊥

module _ {K V Q : Type 0} where
  -- it goes on with this block of its own
  abbrev pub KeepsIt : ℕ → KeyCall K V Q × Called (Node K V) → Type 0
  KeepsIt own end = (end.0.own ≡ own) × IsToStore end.0.stands × IsOn end.1

  module _ (p : KeyCall K V Q) (some : (p.own == 0) ≡ false) where
    abbrev Keeps : KeyCall K V Q × Called (Node K V) → Type 0
    Keeps end = KeepsIt p.own end

    by_own : (without with_it : KeyCall K V Q × Called (Node K V)) → Keeps with_it → Keeps (if p.own == 0 then without else with_it)
    by_own without with_it keeps = subst (λ (x : Bool). Keeps (if x then without else with_it)) (sym some) keeps

    ending_keeps : (end : End) → Keeps (ending p end)
    ending_keeps end = by_own (over p end) (going p (at.Drops end)) (refl, tt, tt)

    storing_keeps : (tells_it : Told V) (word : ℕ) → Keeps (storing tells_it p word)
    storing_keeps tells.Nothing word = (refl, tt, tt)
    storing_keeps (tells.Value value) word = (refl, tt, tt)
    storing_keeps tells.Own word = (refl, tt, tt)
    storing_keeps tells.Removes word = (refl, tt, tt)

    burying_keeps : (word : ℕ) → Keeps (burying p word)
    burying_keeps word = by_own (going p (at.Tries word TOMBSTONE)) (going p (at.Asks (asking.GivesUp word))) (refl, tt, tt)

    gap_keeps : (gap : Gap) → Keeps (at_gap gap p)
    gap_keeps gaps.NoTable = (refl, tt, tt)
    gap_keeps gaps.Free = storing_keeps p.replies.absent 0
    gap_keeps gaps.Past = (refl, tt, tt)
    gap_keeps gaps.Last = (refl, tt, tt)

    asking_keeps : (tells_it : Told V) (gap : Gap) → Keeps (gap_by tells_it gap p)
    asking_keeps tells.Nothing gap = (refl, tt, tt)
    asking_keeps (tells.Value value) gap = gap_keeps gap
    asking_keeps tells.Own gap = gap_keeps gap
    asking_keeps tells.Removes gap = gap_keeps gap

    pair_by_keeps : (tells_it : Told V) (word : ℕ) → Keeps (pair_by tells_it p word)
    pair_by_keeps tells.Nothing word = (refl, tt, tt)
    pair_by_keeps tells.Removes word = burying_keeps word
    pair_by_keeps (tells.Value value) word = storing_keeps (tells.Value value) word
    pair_by_keeps tells.Own word = storing_keeps tells.Own word

    pair_keeps : (x : There) (word : ℕ) → Keeps (at_pair x p word)
    pair_keeps there.Answers word = ending_keeps (ends.Answered (answers.Found word))
    pair_keeps there.Puts word = (refl, tt, tt)
    pair_keeps there.Removes word = (refl, tt, tt)
    pair_keeps there.Asks word = by (word / 2048 == p.replies.pair)
      where
        by : (x : Bool) → Keeps (if x then pair_by p.replies.present p word else pair_by tells.Nothing p word)
        by true = pair_by_keeps p.replies.present word
        by false = pair_by_keeps tells.Nothing word

    free_keeps : (x : Missing) → Keeps (at_free x p)
    free_keeps missing.Answers = ending_keeps (ends.Answered answers.Absent)
    free_keeps missing.Puts = (refl, tt, tt)
    free_keeps missing.Asks = asking_keeps p.replies.absent gaps.Free

    end_keeps : (x : Missing) → Keeps (at_end x p)
    end_keeps missing.Answers = ending_keeps (ends.Answered answers.Absent)
    end_keeps missing.Puts = (refl, tt, tt)
    end_keeps missing.Asks = asking_keeps p.replies.absent gaps.Past

    beyond_keeps : Keeps (beyond p)
    beyond_keeps = by (is_incremental p.setting.mode)
      where
        by : (x : Bool) → Keeps (if x then going p at.Nexts else at_end p.missing p)
        by true = (refl, tt, tt)
        by false = end_keeps p.missing

    passed_keeps : (next : Option Trial) → Keeps (passed p next)
    passed_keeps (Some trial) = (refl, tt, tt)
    passed_keeps None = beyond_keeps

    halted_keeps : (loaded : Bool) → Keeps (halted loaded p)
    halted_keeps true = (refl, tt, tt)
    halted_keeps false = (refl, tt, tt)

  told_of_keeps : (p : KeyCall K V Q) → (p.own == 0) ≡ false → (loaded : Bool) (word : ℕ) (found : Finding) → KeepsIt p.own (after_finding loaded p word found)
  told_of_keeps p some loaded word is.Free = free_keeps p some p.missing
  told_of_keeps p some loaded word is.Passed = passed_keeps (having_met p word) some (next_trial (with_met p.trial word))
  told_of_keeps p some loaded word is.Moved = (refl, tt, tt)
  told_of_keeps p some loaded word is.Copying = halted_keeps p some loaded
  told_of_keeps p some loaded word is.There = pair_keeps p some p.there word

  -- whatever the word says
  pub told_keeps : (p : KeyCall K V Q) → (p.own == 0) ≡ false → (loaded : Bool) (word : ℕ) (same_key : Bool) → KeepsIt p.own (told loaded p word same_key)
  told_keeps p some loaded word same_key = told_of_keeps p some loaded word (finding p.setting.mode (aim_of p.missing) word same_key)

-- where it has a block of its own it has made it
module _ {K V Q : Type 0} (same : K → K → Bool) (hash : K → ℕ) (asks : Q → K → Bool) (w : World (Node K V)) (caller : ℕ) (setting : Setting) (c : Chart K) (blocks : Blocks) (keys : K → Bool)
    (change : Change) (p : KeyCall K V Q) (code : p.hash < 2 ^ 64) (some : (p.own == 0) ≡ false) where
  abbrev pub IsMine : Type 0
  IsMine = (w.hand (p.own / 2048) ≡ Making caller) × (value : Node K V) × (value_at w.memory (p.own / 2048) ≡ Some value) × (value ≢ Shards)

  mine_as : (block : ℕ) (value : Node K V) → p.own / 2048 ≡ block → w.hand block ≡ Making caller → value_at w.memory block ≡ Some value → value ≢ Shards → IsMine
  mine_as block value same_block hand there other = (ap w.hand same_block ∙ hand, value, ap (value_at w.memory) same_block ∙ there, other)

  pair_mine : IsOwnPair same hash asks w caller setting c blocks keys change p.own p.hash → IsMine
  pair_mine own =
      mine_as own.block (Pair own.key own.value) (own_block same hash asks caller setting keys w c blocks change p.own p.hash code own) own.hand own.there (λ e. cc e)

  vacant_mine : IsVacant same hash asks w caller setting c blocks keys change p.own p.hash → IsMine
  vacant_mine own =
      let word = own.word_is in let small = own.number in mine_as own.block vacant (omega (arith, word, small.1)) own.hand own.there (λ e. cc e)

  none_zero : p.own ≡ 0 → ⊥
  none_zero zero = let e = eq-eqb p.own 0 zero in cc (e, some)

  own_mine : (x : Holding) → HasOwn same hash asks w caller setting c blocks keys change x p.asked p.replies.key p.own p.hash → IsMine
  own_mine InBlock (asked, key, own) = pair_mine own
  own_mine Apart (zero, q, asked, agrees) = absurd (none_zero zero)
  own_mine ByReply (asked, inl (zero, key)) = absurd (none_zero zero)
  own_mine ByReply (asked, inr (key, own)) = pair_mine own

  its_mine : HasIts same hash asks w caller setting c blocks keys change p → IsMine
  its_mine its = own_mine (holding p.replies.takes p.missing) its

  late_its : HasIts same hash asks w caller setting c blocks keys Unchanged p → change ≡ Unchanged → IsMine
  late_its its e = its_mine (subst (λ (x : Change). HasIts same hash asks w caller setting c blocks keys x p) (sym e) its)

  asking_mine : (stands : Asking) → AskingFacts same hash asks w caller setting c blocks keys change p stands → IsMine
  asking_mine (asking.Absent gap) (its, missing_is, gap_facts) = its_mine its
  asking_mine (asking.Present word) (its, there_is, names, try) = its_mine its
  asking_mine (asking.Fills word) (inl its, by_reply, is_told, may, try) = its_mine its
  asking_mine (asking.Fills word) (inr (asked, vacant, key), by_reply, is_told, may, try) = vacant_mine vacant
  asking_mine (asking.GivesUp word) (its, by_reply, has_own, names, try) = its_mine its

  pub mine_at : (stands : Calling) → IsToStore stands → CallingFacts same hash asks w caller setting c blocks keys change p stands → IsMine
  mine_at at.Makes has point = absurd has
  mine_at (at.Looks lookup) has point = absurd has
  mine_at at.Roots has point = absurd has
  mine_at at.Probes has (its, try) = its_mine its
  mine_at (at.Tries word new) has (its, may, try) = its_mine its
  mine_at (at.Counts removed) has point = absurd has
  mine_at at.Nexts has (its, t, tried) = its_mine its
  mine_at (at.Firsts making) has (its, stores, facts) = its_mine its
  mine_at (at.Allocs making) has (its, t, tried, facts) = its_mine its
  mine_at (at.Helps copier goal) has point = absurd has
  mine_at (at.Copies copier) has point = absurd has
  mine_at (at.Asks stands) has point = asking_mine stands point
  mine_at (at.Disposes dispose answer) has point = absurd has
  mine_at (at.Drops end) has (unchanged, own) = pair_mine own
  mine_at (at.Over end) has point = absurd has

  -- and so it is in a table that the root has left
  late_asking : (began : ℕ) (stands : Asking) → SupersededAsking same hash asks w caller setting c blocks keys began p stands → change ≡ Unchanged → IsMine
  late_asking began (asking.Absent gap) (its, missing_is, gap_facts) e = late_its its e
  late_asking began (asking.Present word) (its, there_is, names, trial) e = late_its its e
  late_asking began (asking.Fills word) (inl its, by_reply, is_told, may, trial) e = late_its its e
  late_asking began (asking.Fills word) (inr (asked, own, key), by_reply, is_told, may, trial) e =
      vacant_mine (subst (λ (x : Change). IsVacant same hash asks w caller setting c blocks keys x p.own p.hash) (sym e) own)
  late_asking began (asking.GivesUp word) (its, by_reply, has_own, names, trial) e = late_its its e

  pub late_mine : (began : ℕ) (stands : Calling) → IsToStore stands → SupersededCalling same hash asks w caller setting c blocks keys began p stands → change ≡ Unchanged → IsMine
  late_mine began at.Makes has point e = absurd has
  late_mine began (at.Looks lookup) has point e = absurd has
  late_mine began at.Roots has point e = absurd has
  late_mine began at.Probes has (its, trial) e = late_its its e
  late_mine began (at.Tries word new) has (its, trial, may) e = late_its its e
  late_mine began (at.Counts removed) has point e = absurd has
  late_mine began at.Nexts has (its, t, entered, left) e = late_its its e
  late_mine began (at.Firsts making) has (its, stores, facts) e = late_its its e
  late_mine began (at.Allocs making) has (its, t, entered, left, facts) e = late_its its e
  late_mine began (at.Helps copier goal) has point e = absurd has
  late_mine began (at.Copies copier) has point e = absurd has
  late_mine began (at.Asks stands) has point e = late_asking began stands point e
  late_mine began (at.Disposes dispose answer) has point e = absurd has
  late_mine began (at.Drops end) has point e = absurd point
  late_mine began (at.Over end) has point e = absurd has

-- no row is under way there
pub no_row : (stands : Calling) → IsToStore stands → IsRowOfCall stands → ⊥
no_row at.Makes has row = row
no_row (at.Looks lookup) has row = row
no_row at.Roots has row = row
no_row at.Probes has row = row
no_row (at.Tries word new) has row = row
no_row (at.Counts removed) has row = row
no_row at.Nexts has row = row
no_row (at.Firsts making) has row = row
no_row (at.Allocs making) has row = row
no_row (at.Helps copier goal) has row = has
no_row (at.Copies copier) has row = has
no_row (at.Asks stands) has row = row
no_row (at.Disposes dispose answer) has row = has
no_row (at.Drops end) has row = row
no_row (at.Over end) has row = row
