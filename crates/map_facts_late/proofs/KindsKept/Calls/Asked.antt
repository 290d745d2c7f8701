-- A call that asks stays of its kind where it goes on by what it was told, where it is told something, and where its own block gets a pair, or is given up.
use Rattle.std.specs.Prelude.{◌==◌, Option, Some, None, Ok, Err, if◌then◌else◌}
use Rattle.std.proofs.Common.{◌≡◌, ◌≢◌, ℕ, Bool, true, false, inl, inr, refl, sym, ◌∙◌, arith}
use Rattle.map_facts.specs.Given.SeizeWordsOp.{Out, Found, Stored, Exchanged, Made, Taken, Roomed}
use Rattle.map_facts.specs.Given.SeizeWordsWord.{block_in}
use Rattle.map_facts.specs.Given.SeizeWordsDeclared.fault.Fault.TheVariants.{RemoveNothing}
use Rattle.map_facts.specs.Given.TablesDeclared.lengths.TheConstants.{FIRST_LEN}
use Rattle.map_facts.specs.Given.TablesDeclared.marks.TheConstants.{TOMBSTONE}
use Rattle.map_facts.specs.Given.TablesDeclared.node.Node.{Node}
use Rattle.map_facts.specs.Given.TablesDeclared.node.Node.TheVariants as node
use Rattle.map_facts.specs.Given.RawCallAsks.{with_absent, with_present, absent_replied, present_replied, replied_at}
use Rattle.map_facts.specs.Given.RawCallFills.{taken_back, filled, putting_by, fill_by, emptied, fills_with, given_up, asks_at}
use Rattle.map_facts.specs.Given.RawCallPoints.{word_to, standing, going, over, ending, full_for, following_made, storing, burying, at_gap, gap_by, asking_at, pair_by, asking_of}
use Rattle.map_facts.specs.Given.RawReplies.{owned, value_for, as_own, back, back_present, with_back}
use Rattle.map_facts.specs.Given.RawDeclared.machines.answer.KeyAnswer.TheVariants as answers
use Rattle.map_facts.specs.Given.RawDeclared.machines.answer.Called.{Called}
use Rattle.map_facts.specs.Given.RawDeclared.machines.answer.Called.TheVariants as called
use Rattle.map_facts.specs.Given.RawDeclared.machines.answer.End.{End}
use Rattle.map_facts.specs.Given.RawDeclared.machines.answer.End.TheVariants as ends
use Rattle.map_facts.specs.Given.RawDeclared.machines.answer.Missing.{Missing}
use Rattle.map_facts.specs.Given.RawDeclared.machines.answer.Missing.TheVariants as missing
use Rattle.map_facts.specs.Given.RawDeclared.machines.answer.There.{There}
use Rattle.map_facts.specs.Given.RawDeclared.machines.answer.There.TheVariants as there
use Rattle.map_facts.specs.Given.RawDeclared.machines.asking.Asking.{Asking}
use Rattle.map_facts.specs.Given.RawDeclared.machines.asking.Asking.TheVariants as asking
use Rattle.map_facts.specs.Given.RawDeclared.machines.asking.Gap.{Gap}
use Rattle.map_facts.specs.Given.RawDeclared.machines.asking.Gap.TheVariants as gaps
use Rattle.map_facts.specs.Given.RawDeclared.machines.asking.Replies.{Replies}
use Rattle.map_facts.specs.Given.RawDeclared.machines.asking.MachineReply.{MachineReply}
use Rattle.map_facts.specs.Given.RawDeclared.machines.asking.MachineReply.TheVariants as reply
use Rattle.map_facts.specs.Given.RawDeclared.machines.asking.Takes.{Takes}
use Rattle.map_facts.specs.Given.RawDeclared.machines.asking.Takes.TheVariants as told
use Rattle.map_facts.specs.Given.RawDeclared.machines.asking.Told.{Told}
use Rattle.map_facts.specs.Given.RawDeclared.machines.asking.Told.TheVariants as tells
use Rattle.map_facts.specs.Given.RawDeclared.machines.call.KeyCall.{KeyCall}
use Rattle.map_facts.specs.Given.RawDeclared.machines.call.Calling.{Calling}
use Rattle.map_facts.specs.Given.RawDeclared.machines.call.Calling.TheVariants as at
use Rattle.map_facts.proofs.Given.RuleKeys.Always.{Always, AlwaysOf}
use Rattle.map_facts_late.specs.Kinds.{RepliesFit, IsMore, MayRemove, FitsStore, OverFits, FitsAsking, FitsAt, IsFit, StepFits, RepliesPreserveTheKind}
use Rattle.map_facts_late.proofs.KindsKept.Rooms.Making.{first_table_room, table_after_room}

-- the word of a block that is linked is no tombstone
pub word_no_tombstone : (block code : ℕ) → word_to block code ≢ TOMBSTONE
word_no_tombstone block code e = absurd (omega (arith, e))

-- What it was told stays fit, as the value goes into its own block, and comes out of it.
module _ {K V : Type 0} (takes : Takes) (r : Replies K V) (fits : RepliesFit takes r) where
  owned_nothing : (t : Told V) → t ≡ tells.Nothing → owned t ≡ tells.Nothing
  owned_nothing tells.Nothing e = refl
  owned_nothing (tells.Value value) e = absurd (cc e)
  owned_nothing tells.Own e = e
  owned_nothing tells.Removes e = e

  owned_removes : (t : Told V) → owned t ≡ tells.Removes → t ≡ tells.Removes
  owned_removes tells.Nothing e = e
  owned_removes (tells.Value value) e = absurd (cc e)
  owned_removes tells.Own e = e
  owned_removes tells.Removes e = refl

  owns_fit : (word : ℕ) → RepliesFit takes (as_own r word)
  owns_fit word = by (word == 0)
    where
      by : (b : Bool) → RepliesFit takes (if b then record r { absent = owned r.absent } else record r { present = owned r.present })
      by true = record { takes_is = fits.takes_is; removes = fits.removes; choices = fits.choices }
      by false = record { takes_is = fits.takes_is; removes = λ e. fits.removes (owned_removes r.present e); choices = λ e. owned_nothing r.present (fits.choices e) }

  module _ (key : K) (value : V) where
    present_back_fits : (t : Told V) → r.present ≡ t → RepliesFit takes (back_present t (record r { key = Some key }) value)
    present_back_fits tells.Nothing e = record { takes_is = fits.takes_is; removes = fits.removes; choices = fits.choices }
    present_back_fits (tells.Value x) e = record { takes_is = fits.takes_is; removes = fits.removes; choices = fits.choices }
    present_back_fits tells.Own e = record { takes_is = fits.takes_is; removes = λ removes. cc removes; choices = λ is. absurd (let none = fits.choices is in cc (none, e)) }
    present_back_fits tells.Removes e = record { takes_is = fits.takes_is; removes = fits.removes; choices = fits.choices }

    back_fits : RepliesFit takes (with_back r key value)
    back_fits = by r.absent
      where
        by : (t : Told V) → RepliesFit takes (back t (record r { key = Some key }) value)
        by tells.Nothing = present_back_fits r.present refl
        by (tells.Value x) = present_back_fits r.present refl
        by tells.Own = record { takes_is = fits.takes_is; removes = fits.removes; choices = fits.choices }
        by tells.Removes = present_back_fits r.present refl

-- one that asks is more than a lookup, and may replace a pair where it does not choose alone
module _ (present : There) (absent : Missing) (takes : Takes) where
  asks_missing : absent ≡ missing.Asks → IsMore present absent takes
  asks_missing asks there answers = cc (asks, answers)

  asks_there : present ≡ there.Asks → IsMore present absent takes
  asks_there asks answers missing = cc (asks, answers)

  may_replace : present ≡ there.Asks → (word : ℕ) → word ≢ 0 → takes ≢ told.Choices → FitsStore present absent takes word
  may_replace asks word some other = ((λ z. absurd (some z)), (λ n. inr (asks, other)))

module _ {K V Q : Type 0} (present : There) (absent : Missing) (takes : Takes) where
  pub either : (b : Bool) (x y : KeyCall K V Q × Called (Node K V)) → (b ≡ true → StepFits present absent takes x) → (b ≡ false → StepFits present absent takes y)
      → StepFits present absent takes (if b then x else y)
  either true x y f g = f refl
  either false x y f g = g refl

  -- where it goes on from a point
  module _ (p : KeyCall K V Q) (is_there : p.there ≡ present) (is_missing : p.missing ≡ absent) (is_told : RepliesFit takes p.replies) (is_own : p.own ≢ TOMBSTONE) where
    pub fit_over : (end : End) → OverFits present absent takes end → StepFits present absent takes (over p end)
    fit_over (ends.Answered answer) fits = ((is_there, is_missing, is_told, is_own, fits), fits)
    fit_over (ends.Refused fault) fits = ((is_there, is_missing, is_told, is_own, fits), fits)

    pub fit_ending : (end : End) → OverFits present absent takes end → StepFits present absent takes (ending p end)
    fit_ending end fits = either (p.own == 0) (over p end) (going p (at.Drops end)) (λ e. fit_over end fits) (λ e. ((is_there, is_missing, is_told, is_own, fits), tt))

    -- it puts its own block in the place of a word, or a tombstone
    pub fit_puts : IsMore present absent takes → (word : ℕ) → FitsStore present absent takes word → StepFits present absent takes (going p (at.Tries word p.own))
    fit_puts more word fits = ((is_there, is_missing, is_told, is_own, (more, ((λ t. absurd (is_own t)), (λ n. fits)))), tt)

    pub fit_removes : IsMore present absent takes → (word : ℕ) → word ≢ 0 → MayRemove present absent takes → StepFits present absent takes (going p (at.Tries word TOMBSTONE))
    fit_removes more word some may = ((is_there, is_missing, is_told, is_own, (more, ((λ t. (some, may)), (λ n. absurd (n refl))))), tt)

    fit_storing : IsMore present absent takes → (t : Told V) (word : ℕ) → FitsStore present absent takes word → StepFits present absent takes (storing t p word)
    fit_storing more tells.Nothing word fits = ((is_there, is_missing, is_told, is_own, (more, fits)), tt)
    fit_storing more (tells.Value value) word fits = ((is_there, is_missing, is_told, is_own, (more, fits)), tt)
    fit_storing more tells.Own word fits = fit_puts more word fits
    fit_storing more tells.Removes word fits = ((is_there, is_missing, is_told, is_own, (more, fits)), tt)

    fit_burying : IsMore present absent takes → (word : ℕ) → word ≢ 0 → MayRemove present absent takes → StepFits present absent takes (burying p word)
    fit_burying more word some may =
        either (p.own == 0) (going p (at.Tries word TOMBSTONE)) (going p (at.Asks (asking.GivesUp word)))
        (λ e. fit_removes more word some may) (λ e. ((is_there, is_missing, is_told, is_own, (more, some, may)), tt))

    pub fit_following : IsMore present absent takes → StepFits present absent takes (following_made p)
    fit_following more = ((is_there, is_missing, is_told, is_own, (more, table_after_room p.setting p.trial.table (full_for p.trial))), tt)

    -- where the key is missing, and it asks there
    module _ (asks : absent ≡ missing.Asks) where
      asks_more : IsMore present absent takes
      asks_more = asks_missing present absent takes asks

      fit_gap : (gap : Gap) → StepFits present absent takes (at_gap gap p)
      fit_gap gaps.NoTable = ((is_there, is_missing, is_told, is_own, (asks_more, first_table_room p.setting FIRST_LEN)), tt)
      fit_gap gaps.Free = fit_storing asks_more p.replies.absent 0 ((λ z. inr asks), (λ n. absurd (n refl)))
      fit_gap gaps.Past = ((is_there, is_missing, is_told, is_own, asks_more), tt)
      fit_gap gaps.Last = fit_following asks_more

      pub fit_asking : (gap : Gap) → StepFits present absent takes (asking_at gap p)
      fit_asking gap = by p.replies.absent
        where
          by : (t : Told V) → StepFits present absent takes (gap_by t gap p)
          by tells.Nothing = ((is_there, is_missing, is_told, is_own, asks), asks)
          by (tells.Value value) = fit_gap gap
          by tells.Own = fit_gap gap
          by tells.Removes = fit_gap gap

    -- where it is there, and it asks there
    module _ (asks : present ≡ there.Asks) (word : ℕ) (some : word ≢ 0) where
      there_more : IsMore present absent takes
      there_more = asks_there present absent takes asks

      replaces : takes ≢ told.Choices → FitsStore present absent takes word
      replaces other = may_replace present absent takes asks word some other

      -- it was told something of the pair
      told_other : (t : Told V) → p.replies.present ≡ t → t ≢ tells.Nothing → takes ≢ told.Choices
      told_other t is other choices = let none = is_told.choices choices in other (sym is ∙ none)

      pub fit_asking_of : StepFits present absent takes (asking_of p word)
      fit_asking_of = either (block_in word == p.replies.pair) (pair_by p.replies.present p word) (pair_by tells.Nothing p word) (λ e. by p.replies.present refl) (λ e. asked)
        where
          asked : StepFits present absent takes (standing p (at.Asks (asking.Present word)), called.Asks (Some word))
          asked = ((is_there, is_missing, is_told, is_own, (asks, some)), asks)

          by : (t : Told V) → p.replies.present ≡ t → StepFits present absent takes (pair_by t p word)
          by tells.Nothing is = asked
          by (tells.Value value) is = fit_storing there_more (tells.Value value) word (replaces (told_other (tells.Value value) is (λ e. cc e)))
          by tells.Own is = fit_storing there_more tells.Own word (replaces (told_other tells.Own is (λ e. cc e)))
          by tells.Removes is = fit_burying there_more word some (inr (asks, λ values. let changes = is_told.removes is in cc (values, changes)))

  -- what its steps lead to, where its own block gets a pair, or is given up
  module _ (p : KeyCall K V Q) (is : IsFit present absent takes p) (word : ℕ) (more : IsMore present absent takes) where
    on_filled : FitsStore present absent takes word → (out : Out (Node K V)) → Always (StepFits present absent takes) (filled p word out)
    on_filled fits (Made (Ok block)) = ((is.0, is.1, is.2, word_no_tombstone block p.hash, (more, ((λ t. absurd (word_no_tombstone block p.hash t)), (λ n. fits)))), tt)
    on_filled fits (Made (Err back)) = ((is.0, is.1, is.2, is.3, inl (more, inl refl)), tt)
    on_filled fits (Taken value) = fit_puts p is.0 is.1 is.2 is.3 more word fits
    on_filled fits (Found found) = (is, tt)
    on_filled fits Stored = (is, tt)
    on_filled fits (Exchanged r) = (is, tt)
    on_filled fits (Roomed r) = (is, tt)

    on_emptied : FitsStore present absent takes word → (out : Out (Node K V)) → Always (StepFits present absent takes) (emptied p word out)
    on_emptied fits (Taken (node.Pair key value)) = ((is.0, is.1, back_fits takes p.replies is.2 key value, is.3, (more, fits)), tt)
    on_emptied fits (Taken (node.Table a b c)) = ((is.0, is.1, is.2, is.3, more), tt)
    on_emptied fits (Taken node.Shards) = ((is.0, is.1, is.2, is.3, more), tt)
    on_emptied fits (Made r) = ((is.0, is.1, is.2, is.3, more), tt)
    on_emptied fits (Found found) = ((is.0, is.1, is.2, is.3, more), tt)
    on_emptied fits Stored = ((is.0, is.1, is.2, is.3, more), tt)
    on_emptied fits (Exchanged r) = ((is.0, is.1, is.2, is.3, more), tt)
    on_emptied fits (Roomed r) = ((is.0, is.1, is.2, is.3, more), tt)

    on_given_up : word ≢ 0 → MayRemove present absent takes → (out : Out (Node K V)) → Always (StepFits present absent takes) (given_up p word out)
    on_given_up some may (Taken (node.Pair key value)) =
        fit_removes (taken_back (record p { own = 0 }) key value) is.0 is.1 (back_fits takes p.replies is.2 key value) (λ e. cc e) more word some may
    on_given_up some may (Taken (node.Table a b c)) = fit_removes (record p { own = 0 }) is.0 is.1 is.2 (λ e. cc e) more word some may
    on_given_up some may (Taken node.Shards) = fit_removes (record p { own = 0 }) is.0 is.1 is.2 (λ e. cc e) more word some may
    on_given_up some may (Made r) = (is, tt)
    on_given_up some may (Found found) = (is, tt)
    on_given_up some may Stored = (is, tt)
    on_given_up some may (Exchanged r) = (is, tt)
    on_given_up some may (Roomed r) = (is, tt)

    on_putting : FitsStore present absent takes word → (b : Bool) (key : K) (value : V) → AlwaysOf (StepFits present absent takes) (putting_by b p word key value)
    on_putting fits true key value = on_filled fits
    on_putting fits false key value = on_filled fits

  on_fills : (p : KeyCall K V Q) → IsFit present absent takes p → (word : ℕ) → IsMore present absent takes → FitsStore present absent takes word → (key : Option K)
      → AlwaysOf (StepFits present absent takes) (fills_with key p word)
  on_fills p is word more fits None = on_emptied p is word more fits
  on_fills p is word more fits (Some key) = by (value_for p.replies word)
    where
      owns : RepliesFit takes (as_own p.replies word)
      owns = owns_fit takes p.replies is.2 word

      by : (v : Option V) → AlwaysOf (StepFits present absent takes) (fill_by v (record p { replies = as_own p.replies word }) word key)
      by (Some value) =
          on_putting (record p { replies = record (as_own p.replies word) { key = None } })
          (is.0, is.1, record { takes_is = owns.takes_is; removes = owns.removes; choices = owns.choices }, is.3, is.4) word more fits (p.own == 0) key value
      by None = ((is.0, is.1, owns, is.3, more), tt)

  -- whatever its step comes to where it asks, or goes by what it was told
  pub on_asks : (p : KeyCall K V Q) → IsFit present absent takes p → (stands : Asking) → FitsAsking present absent takes stands → AlwaysOf (StepFits present absent takes) (asks_at p stands)
  on_asks p is (asking.Absent gap) fits = (is, fits)
  on_asks p is (asking.Present word) fits = (is, fits.0)
  on_asks p is (asking.Fills word) fits = on_fills p is word fits.0 fits.1 p.replies.key
  on_asks p is (asking.GivesUp word) fits = on_given_up p is word fits.0 fits.1 fits.2

  -- what it is told
  module _ (p : KeyCall K V Q) (is : IsFit present absent takes p) where
    -- where the key is missing
    absent_stored : absent ≡ missing.Asks → (value : V) (gap : Gap) → IsFit present absent takes (at_gap gap (with_absent p value)).0
    absent_stored asks value gap = (fit_gap (with_absent p value) is.0 is.1 (record { takes_is = is.2.takes_is; removes = is.2.removes; choices = is.2.choices }) is.3 asks gap).0

    absent_fits : absent ≡ missing.Asks → (t : Takes) → takes ≡ t → (gap : Gap) (r : MachineReply V) → IsFit present absent takes (absent_replied t p gap r).0
    absent_fits asks told.Values is_t gap (reply.Insert value) = absent_stored asks value gap
    absent_fits asks told.Changes is_t gap (reply.Insert value) = absent_stored asks value gap
    absent_fits asks told.Changes is_t gap reply.Remove = (fit_ending p is.0 is.1 is.2 is.3 (ends.Refused RemoveNothing) (inr (is_t, asks, refl))).0
    absent_fits asks told.Changes is_t gap reply.Abort = (fit_ending p is.0 is.1 is.2 is.3 (ends.Answered answers.Absent) (inr (asks, is_t))).0
    absent_fits asks told.Changes is_t gap reply.Yes = is
    absent_fits asks told.Changes is_t gap reply.No = is
    absent_fits asks told.Values is_t gap reply.Remove = is
    absent_fits asks told.Values is_t gap reply.Abort = is
    absent_fits asks told.Values is_t gap reply.Yes = is
    absent_fits asks told.Values is_t gap reply.No = is
    absent_fits asks told.Nothing is_t gap r = is
    absent_fits asks told.Choices is_t gap r = is

    -- and where a pair is
    module _ (asks : present ≡ there.Asks) (word : ℕ) (some : word ≢ 0) where
      present_stored : takes ≢ told.Choices → (value : V) → IsFit present absent takes (standing (with_present p word (tells.Value value)) (at.Asks (asking.Fills word)))
      present_stored other value = (
        is.0,
        is.1,
        record { takes_is = is.2.takes_is; removes = λ removes. cc removes; choices = λ choices. absurd (other choices) },
        is.3,
        (asks_there present absent takes asks, may_replace present absent takes asks word some other),
      )

      present_removed : takes ≡ told.Changes → IsFit present absent takes (burying (with_present p word tells.Removes) word).0
      present_removed changes =
          (fit_burying (with_present p word tells.Removes) is.0 is.1
          (record { takes_is = is.2.takes_is; removes = λ removes. changes; choices = λ choices. absurd (cc (changes, choices)) }) is.3
          (asks_there present absent takes asks) word some (inr (asks, λ values. cc (changes, values)))).0

      present_found : takes ≢ told.Values → IsFit present absent takes (ending p (ends.Answered (answers.Found word))).0
      present_found other = (fit_ending p is.0 is.1 is.2 is.3 (ends.Answered (answers.Found word)) (inr (asks, other))).0

      present_fits : (t : Takes) → takes ≡ t → (r : MachineReply V) → IsFit present absent takes (present_replied t p word r).0
      present_fits told.Values is_t (reply.Insert value) = present_stored (λ choices. cc (is_t, choices)) value
      present_fits told.Changes is_t (reply.Insert value) = present_stored (λ choices. cc (is_t, choices)) value
      present_fits told.Changes is_t reply.Remove = present_removed is_t
      present_fits told.Changes is_t reply.Abort = present_found (λ values. cc (is_t, values))
      present_fits told.Choices is_t reply.Yes =
          (fit_burying p is.0 is.1 is.2 is.3 (asks_there present absent takes asks) word some (inr (asks, λ values. cc (is_t, values)))).0
      present_fits told.Choices is_t reply.No = present_found (λ values. cc (is_t, values))
      present_fits told.Values is_t reply.Remove = is
      present_fits told.Values is_t reply.Abort = is
      present_fits told.Values is_t reply.Yes = is
      present_fits told.Values is_t reply.No = is
      present_fits told.Changes is_t reply.Yes = is
      present_fits told.Changes is_t reply.No = is
      present_fits told.Choices is_t (reply.Insert value) = is
      present_fits told.Choices is_t reply.Remove = is
      present_fits told.Choices is_t reply.Abort = is
      present_fits told.Nothing is_t r = is

    told_fits : (stands : Calling) → FitsAt present absent takes stands → (r : MachineReply V) → IsFit present absent takes (replied_at stands p r).0
    told_fits (at.Asks (asking.Absent gap)) fits r = absent_fits fits p.replies.takes (sym is.2.takes_is) gap r
    told_fits (at.Asks (asking.Present word)) fits r = present_fits fits.0 word fits.1 p.replies.takes (sym is.2.takes_is) r
    told_fits (at.Asks (asking.Fills word)) fits r = is
    told_fits (at.Asks (asking.GivesUp word)) fits r = is
    told_fits at.Makes fits r = is
    told_fits (at.Looks l) fits r = is
    told_fits at.Roots fits r = is
    told_fits at.Probes fits r = is
    told_fits (at.Tries word new) fits r = is
    told_fits (at.Counts removed) fits r = is
    told_fits at.Nexts fits r = is
    told_fits (at.Firsts making) fits r = is
    told_fits (at.Allocs making) fits r = is
    told_fits (at.Helps copier goal) fits r = is
    told_fits (at.Copies copier) fits r = is
    told_fits (at.Disposes dispose answer) fits r = is
    told_fits (at.Drops last) fits r = is
    told_fits (at.Over last) fits r = is

pub replies_kept : (K V Q : Type 0) → RepliesPreserveTheKind K V Q
replies_kept K V Q present absent takes p is reply = told_fits present absent takes p is p.stands is.4 reply
