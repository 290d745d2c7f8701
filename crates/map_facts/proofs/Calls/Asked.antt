-- Where a call goes on that asks: what is so of each point that it may come to is so of it.
use Rattle.std.specs.Prelude.{◌≡◌, ℕ, ◌==◌, if◌then◌else◌, Bool, true, false, Option, Some, None}
use Rattle.std.proofs.Common.{refl}
use Rattle.map_rule.specs.Given.SeizeWordsWord.{block_in}
use Rattle.papaya_raw.specs.Given.TablesChunks.{is_incremental}
use Rattle.map_rule.specs.Given.ResizeNewTable.{first_table}
use Rattle.papaya_raw.specs.Given.TablesDeclared.lengths.TheConstants.{FIRST_LEN}
use Rattle.papaya_raw.specs.Given.TablesDeclared.marks.TheConstants.{TOMBSTONE}
use Rattle.papaya_raw.specs.Given.TablesDeclared.node.Node.{Node}
use Rattle.papaya_raw.specs.Given.TablesDeclared.trial.Trial.{Trial}
use Rattle.papaya_raw.specs.CallPoints.{standing, going, ending, following_made, storing, burying, at_gap, gap_by, asking_at, pair_by, asking_of, at_end, beyond, passed}
use Rattle.papaya_raw.specs.declared.machines.answer.Called.{Called}
use Rattle.papaya_raw.specs.declared.machines.answer.Called.TheVariants.{Asks}
use Rattle.papaya_raw.specs.declared.machines.answer.End.TheVariants as ends
use Rattle.papaya_raw.specs.declared.machines.answer.KeyAnswer.TheVariants as answers
use Rattle.papaya_raw.specs.declared.machines.answer.Missing.{Missing}
use Rattle.papaya_raw.specs.declared.machines.answer.Missing.TheVariants as missing
use Rattle.papaya_raw.specs.declared.machines.asking.Asking.{Asking}
use Rattle.papaya_raw.specs.declared.machines.asking.Asking.TheVariants as asking
use Rattle.papaya_raw.specs.declared.machines.asking.Gap.{Gap}
use Rattle.papaya_raw.specs.declared.machines.asking.Gap.TheVariants as gaps
use Rattle.papaya_raw.specs.declared.machines.asking.Told.{Told}
use Rattle.papaya_raw.specs.declared.machines.asking.Told.TheVariants as tells
use Rattle.papaya_raw.specs.declared.machines.call.KeyCall.{KeyCall}
use Rattle.papaya_raw.specs.declared.machines.call.Calling.TheVariants as at

module _ {K V Q : Type 0} (So : KeyCall K V Q × Called (Node K V) → Type 0) (p : KeyCall K V Q)
    (tries : (word new : ℕ) → So (going p (at.Tries word new))) (goes : (asking : Asking) → So (going p (at.Asks asking)))
    (asks : (asking : Asking) (asked : Option ℕ) → So (standing p (at.Asks asking), Asks asked)) where
  storing_so : (told : Told V) (word : ℕ) → So (storing told p word)
  storing_so tells.Nothing word = goes (asking.Fills word)
  storing_so (tells.Value value) word = goes (asking.Fills word)
  storing_so tells.Own word = tries word p.own
  storing_so tells.Removes word = goes (asking.Fills word)

  burying_so : (word : ℕ) → So (burying p word)
  burying_so word = by (p.own == 0)
    where
      by : (b : Bool) → So (if b then going p (at.Tries word TOMBSTONE) else going p (at.Asks (asking.GivesUp word)))
      by true = tries word TOMBSTONE
      by false = goes (asking.GivesUp word)

  -- at a pair
  pub asking_of_so : (word : ℕ) → So (asking_of p word)
  asking_of_so word = by (block_in word == p.replies.pair)
    where
      told_so : (told : Told V) → So (pair_by told p word)
      told_so tells.Nothing = asks (asking.Present word) _
      told_so (tells.Value value) = storing_so (tells.Value value) word
      told_so tells.Own = storing_so tells.Own word
      told_so tells.Removes = burying_so word

      by : (b : Bool) → So (if b then pair_by p.replies.present p word else pair_by tells.Nothing p word)
      by true = told_so p.replies.present
      by false = told_so tells.Nothing

  -- where the key is missing
  module _ (firsts : So (going p (at.Firsts (first_table p.setting FIRST_LEN)))) (nexts : So (going p at.Nexts)) (allocs : So (following_made p)) where
    gap_so : (gap : Gap) → So (at_gap gap p)
    gap_so gaps.NoTable = firsts
    gap_so gaps.Free = storing_so p.replies.absent 0
    gap_so gaps.Past = nexts
    gap_so gaps.Last = allocs

    pub asking_so : (gap : Gap) → So (asking_at gap p)
    asking_so gap = by p.replies.absent
      where
        by : (told : Told V) → So (gap_by told gap p)
        by tells.Nothing = asks (asking.Absent gap) _
        by (tells.Value value) = gap_so gap
        by tells.Own = gap_so gap
        by tells.Removes = gap_so gap

-- Where all tries at a table are made, it reads the link to the next table, or answers that the key is missing, or asks, where it was told nothing for that.
module _ {K V Q : Type 0} (So : KeyCall K V Q × Called (Node K V) → Type 0) (p : KeyCall K V Q) (nexts : So (going p at.Nexts))
    (answered : p.missing ≡ missing.Answers → So (ending p (ends.Answered answers.Absent)))
    (asked : p.missing ≡ missing.Asks → p.replies.absent ≡ tells.Nothing → So (standing p (at.Asks (asking.Absent gaps.Past)), Asks None)) where
  pub beyond_so : So (beyond p)
  beyond_so = by_mode (is_incremental p.setting.mode)
    where
      past : (told : Told V) → p.replies.absent ≡ told → p.missing ≡ missing.Asks → So (gap_by told gaps.Past p)
      past tells.Nothing is e = asked e is
      past (tells.Value value) is e = nexts
      past tells.Own is e = nexts
      past tells.Removes is e = nexts

      by_missing : (m : Missing) → p.missing ≡ m → So (at_end m p)
      by_missing missing.Answers e = answered e
      by_missing missing.Puts e = nexts
      by_missing missing.Asks e = past p.replies.absent refl e

      by_mode : (b : Bool) → So (if b then going p at.Nexts else at_end p.missing p)
      by_mode true = nexts
      by_mode false = by_missing p.missing refl

-- where a try is passed, the next one is made, or all are
module _ {K V Q : Type 0} (So : KeyCall K V Q × Called (Node K V) → Type 0) (p : KeyCall K V Q)
    (probes : (next : Trial) → So (going (record p { trial = next }) at.Probes)) (nexts : So (going p at.Nexts))
    (answered : p.missing ≡ missing.Answers → So (ending p (ends.Answered answers.Absent)))
    (asked : p.missing ≡ missing.Asks → p.replies.absent ≡ tells.Nothing → So (standing p (at.Asks (asking.Absent gaps.Past)), Asks None)) where
  pub passed_so : (next : Option Trial) → So (passed p next)
  passed_so (Some next) = probes next
  passed_so None = beyond_so So p nexts answered asked
