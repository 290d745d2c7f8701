-- A call on a key that only removes, at each of its points: where none is behind the table of the root, it comes to no table that is to be made, copied or helped, and
-- asks for no block, whatever it finds, and whatever it is told. So it is never refused.
use Rattle.std.specs.Prelude.{◌≡◌, ◌≢◌, ℕ, ◌-◌, ◌==◌, nat_lt, Bool, true, false, Option, Some, None, Ok, Err, if◌then◌else◌, ◌⊎◌}
use Rattle.std.proofs.Common.{refl, sym, subst, ap, ◌∙◌, inl, inr}
use Rattle.std.proofs.lemmas.Bool.{cases_eq, ne_eqb}
use Rattle.seize_words.specs.OneMemory.Mem.{Mem, value_at, word_at, Took}
use Rattle.seize_words.specs.OneMemory.Op.{Out, Found, Stored, Exchanged, Made, Taken, Roomed}
use Rattle.seize_words.specs.OneMemory.Plan.{Now, Seeing, Steps}
use Rattle.seize_words.specs.OneMemory.Word.{block_in}
use Rattle.seize_words.specs.declared.at.At.TheVariants.{Root, Word}
use Rattle.seize.specs.declared.rows.settle.Settled.{Settled}
use Rattle.seize.specs.declared.rows.settle.Settled.TheVariants as settled
use Rattle.map_tables.specs.Chunks.{is_incremental}
use Rattle.map_tables.specs.Finding.{finding, may_name}
use Rattle.map_tables.specs.Nodes.{table_seen}
use Rattle.map_tables.specs.Probes.{probe_after}
use Rattle.map_tables.specs.TablePlaces.{at_word}
use Rattle.map_tables.specs.Trials.{next_trial, with_met}
use Rattle.map_tables.specs.declared.finding.Finding.{Finding}
use Rattle.map_tables.specs.declared.finding.Finding.TheVariants as finds
use Rattle.map_tables.specs.declared.marks.TheConstants.{TOMBSTONE}
use Rattle.map_tables.specs.declared.node.Node.{Node}
use Rattle.map_tables.specs.declared.setting.Setting.{Setting}
use Rattle.map_tables.specs.declared.table.Table.{Table}
use Rattle.map_tables.specs.declared.table_words.TheConstants.{NEXT}
use Rattle.map_tables.specs.declared.trial.Trial.{Trial}
use Rattle.owner_calls.specs.Given.ResizeDispose.{disposing, dispose_plan}
use Rattle.owner_calls.specs.Given.ResizeDeclared.dispose.Dispose.{Dispose}
use Rattle.papaya_raw.specs.Call.{call_plan, disposed, disposes, key_read, next_found, next_read, pair_read, probes, root_found, root_read, tried, tries, word_found, word_read}
use Rattle.papaya_raw.specs.Call as calls
use Rattle.papaya_raw.specs.CallAsks.{present_replied, replied, replied_at}
use Rattle.papaya_raw.specs.CallPoints.{aim_of, answering, asking_of, at_free, at_last, at_pair, beyond, burying, changed, counted, ending, entering, following_made, going, having_met, over, pair_by, passed, standing, tableless, told, after_finding}
use Rattle.papaya_raw.specs.CallPoints as points
use Rattle.papaya_raw.specs.declared.machines.answer.Called.{Called}
use Rattle.papaya_raw.specs.declared.machines.answer.Called.TheVariants as called
use Rattle.papaya_raw.specs.declared.machines.answer.End.TheVariants as ends
use Rattle.papaya_raw.specs.declared.machines.answer.KeyAnswer.{KeyAnswer}
use Rattle.papaya_raw.specs.declared.machines.answer.KeyAnswer.TheVariants as answers
use Rattle.papaya_raw.specs.declared.machines.answer.Missing.{Missing}
use Rattle.papaya_raw.specs.declared.machines.answer.Missing.TheVariants as missing
use Rattle.papaya_raw.specs.declared.machines.answer.There.{There}
use Rattle.papaya_raw.specs.declared.machines.answer.There.TheVariants as there
use Rattle.papaya_raw.specs.declared.machines.asking.Asking.TheVariants as asking
use Rattle.papaya_raw.specs.declared.machines.asking.Replies.{Replies}
use Rattle.papaya_raw.specs.declared.machines.asking.MachineReply.{MachineReply}
use Rattle.papaya_raw.specs.declared.machines.asking.MachineReply.TheVariants as reply
use Rattle.papaya_raw.specs.declared.machines.asking.Takes.{Takes}
use Rattle.papaya_raw.specs.declared.machines.asking.Takes.TheVariants as takes
use Rattle.papaya_raw.specs.declared.machines.asking.Told.{Told}
use Rattle.papaya_raw.specs.declared.machines.asking.Told.TheVariants as tells
use Rattle.papaya_raw.specs.declared.machines.call.Calling.{Calling}
use Rattle.papaya_raw.specs.declared.machines.call.Calling.TheVariants as at
use Rattle.papaya_raw.specs.declared.machines.call.KeyCall.{KeyCall}
use Rattle.owner_calls.proofs.Given.RuleKeys.Always.{Always, always_ends, always_if, always_plan_as, always_steps}
use Rattle.seize_words.proofs.OneMemory.OneOwner.Operations.{loaded}
use Rattle.owner_asks.proofs.Steady.Ends.{EndsAt, seen_link}

-- It has no block of its own, and stores nothing where the key is missing. Where it is there, it removes the pair, or asks whether to.
pub record Removing {K V : Type 0} (own : ℕ) (absent : Missing) (present : There) (replies : Replies K V) (its setting : Setting) : Type 0 where
  pub bare : own ≡ 0
  pub answers_none : absent ≡ missing.Answers
  pub removes : (present ≡ there.Removes) ⊎ (present ≡ there.Asks)
  pub chooses : (replies.takes ≡ takes.Nothing) ⊎ (replies.takes ≡ takes.Choices)
  pub untold : replies.present ≡ tells.Nothing
  pub bits : is_incremental its.mode ≡ true
  pub root_is : its.root ≡ setting.root

-- it tells no refusal
abbrev pub IsDone : {T : Type 0} → Called T → Type 0
IsDone (called.Refused fault) = ⊥
IsDone _ = Unit {0}

-- the same table
abbrev KeepsTable : Trial → Option Trial → Type 0
KeepsTable trial None = Unit {0}
KeepsTable trial (Some next) = next.table ≡ trial.table

next_keeps : (trial : Trial) → KeepsTable trial (next_trial trial)
next_keeps trial = by (nat_lt trial.probe.len trial.table.limit)
  where
    by : (b : Bool) → KeepsTable trial (if b then Some (record { table = trial.table; probe = probe_after trial.probe (trial.table.len - 1); met = trial.met; most = trial.most }) else None)
    by true = refl
    by false = tt

module _ (setting : Setting) (link : ℕ) where
  -- the table is that of the root
  abbrev pub AtTable : Table → Type 0
  AtTable table = (table.link ≡ link) × (link ≢ 0)

  abbrev pub StandsSo : Table → Calling → Type 0
  StandsSo table at.Roots = Unit {0}
  StandsSo table at.Probes = AtTable table
  StandsSo table (at.Tries word new) = AtTable table
  StandsSo table at.Nexts = AtTable table
  StandsSo table (at.Counts removed) = Unit {0}
  StandsSo table (at.Asks (asking.Present word)) = AtTable table
  StandsSo table (at.Disposes dispose answer) = Unit {0}
  StandsSo table (at.Over (ends.Answered answer)) = Unit {0}
  StandsSo table _ = ⊥

  module _ {K V Q : Type 0} where
    abbrev pub Removes : KeyCall K V Q → Type 0
    Removes p = Removing p.own p.missing p.there p.replies p.setting setting

    -- such a call stands at such a point
    abbrev pub IsSteady : KeyCall K V Q → Type 0
    IsSteady p = Removes p × StandsSo p.trial.table p.stands

    abbrev pub So : KeyCall K V Q × Called (Node K V) → Type 0
    So end = IsSteady end.0 × IsDone end.1

    either : (b : Bool) (x y : KeyCall K V Q × Called (Node K V)) → So x → So y → So (if b then x else y)
    either true x y f g = f
    either false x y f g = g

    -- where it goes on from a point
    module _ (p : KeyCall K V Q) (r : Removes p) where
      over_so : (answer : KeyAnswer) → So (over p (ends.Answered answer))
      over_so answer = ((r, tt), tt)

      ending_so : (answer : KeyAnswer) → So (ending p (ends.Answered answer))
      ending_so answer =
          subst (λ (b : Bool). So (if b then over p (ends.Answered answer) else going p (at.Drops (ends.Answered answer)))) (sym (ap (λ (n : ℕ). n == 0) r.bare)) (over_so answer)

      tableless_so : So (tableless p.missing p)
      tableless_so = subst (λ (m : Missing). So (tableless m p)) (sym r.answers_none) (ending_so answers.Absent)

      last_so : So (at_last p.missing p)
      last_so =
          subst (λ (m : Missing). So (at_last m p)) (sym r.answers_none)
          (subst (λ (b : Bool). So (if b then answering p answers.Absent else following_made p)) (sym r.bits) (ending_so answers.Absent))

      counted_so : (removed : ℕ) → So (counted p removed)
      counted_so removed =
          either (removed == 0) (over p (ends.Answered (answers.Stored p.own))) (going p (at.Disposes (disposing p.setting removed p.trial.table) (answers.Removed removed))) ((r, tt), tt) ((r, tt), tt)

      changed_so : (word new : ℕ) → So (changed p word new)
      changed_so word new =
          either (new == TOMBSTONE) (going p (at.Counts word)) _ ((r, tt), tt)
          (either (word == 0) (going p (at.Counts 0)) (going p (at.Disposes (disposing p.setting word p.trial.table) (answers.Replaced word p.own))) ((r, tt), tt) ((r, tt), tt))

      disposed_so : (answer : KeyAnswer) (e : Dispose × Settled (Node K V)) → So (disposed p answer e)
      disposed_so answer (d, settled.Goes) = ((r, tt), tt)
      disposed_so answer (d, settled.Waits) = ((r, tt), tt)
      disposed_so answer (d, settled.Gave value) = ((r, tt), tt)
      disposed_so answer (d, settled.Done) = ((r, tt), tt)

      -- in the table of the root
      module _ (t : AtTable p.trial.table) where
        beyond_so : So (beyond p)
        beyond_so = subst (λ (b : Bool). So (if b then going p at.Nexts else points.at_end p.missing p)) (sym r.bits) ((r, t), tt)

        passed_so : (next : Option Trial) → KeepsTable p.trial next → So (passed p next)
        passed_so (Some next) e = ((r, subst AtTable (sym e) t), tt)
        passed_so None e = beyond_so

        pub burying_so : (word : ℕ) → So (burying p word)
        burying_so word =
            subst (λ (b : Bool). So (if b then going p (at.Tries word TOMBSTONE) else going p (at.Asks (asking.GivesUp word)))) (sym (ap (λ (n : ℕ). n == 0) r.bare)) ((r, t), tt)

        asking_so : (word : ℕ) → So (asking_of p word)
        asking_so word =
            either (block_in word == p.replies.pair) (pair_by p.replies.present p word) (pair_by tells.Nothing p word)
            (subst (λ (x : Told V). So (pair_by x p word)) (sym r.untold) ((r, t), tt)) ((r, t), tt)

        pair_so : (word : ℕ) → So (at_pair p.there p word)
        pair_so word = elim r.removes as (λ _. So (at_pair p.there p word)) [
          | inl e ↦ subst (λ (x : There). So (at_pair x p word)) (sym e) ((r, t), tt)
          | inr e ↦ subst (λ (x : There). So (at_pair x p word)) (sym e) (asking_so word)
        ]

    module _ (p : KeyCall K V Q) (r : Removes p) (t : AtTable p.trial.table) where
      told_so : (from : Bool) (word : ℕ) (named : Bool) → So (told from p word named)
      told_so from word named = by (finding p.setting.mode (aim_of p.missing) word named)
        where
          by : (found : Finding) → So (after_finding from p word found)
          by finds.Free = subst (λ (m : Missing). So (at_free m p)) (sym r.answers_none) (ending_so p r answers.Absent)
          by finds.Passed = passed_so (having_met p word) r t (next_trial (with_met p.trial word)) (next_keeps (with_met p.trial word))
          by finds.Moved = ((r, t), tt)
          by finds.Copying = either from (standing p at.Probes, called.Waits) (going p at.Probes) ((r, t), tt) ((r, t), tt)
          by finds.There = pair_so p r t word

      module _ (asks : Q → K → Bool) (same : K → K → Bool) where
        key_so : (from : Bool) (word : ℕ) (key : Option K) → Always So (key_read asks same from p word key)
        key_so from word (Some key) = λ value. told_so from word _
        key_so from word None = λ own value. told_so from word _

        asked_so : (from : Bool) (word : ℕ) (asked : Option Q) → Always So (pair_read asks same from p word asked)
        asked_so from word (Some asked) = λ value. told_so from word _
        asked_so from word None = key_so from word p.replies.key

        read_so : (from : Bool) (word : ℕ) → Always So (word_read asks same from p word)
        read_so from word = always_if So (may_name p.hash word) (pair_read asks same from p word p.asked) _ (asked_so from word p.asked) (told_so from word false)

    -- where a step leads
    module _ (asks : Q → K → Bool) (same : K → K → Bool) (hash : K → ℕ) (m m2 : Mem (Node K V)) (linked : EndsAt setting link m) (p : KeyCall K V Q) (s0 : IsSteady p) (end : KeyCall K V Q × Called (Node K V)) where
      abbrev Stepped : Calling → Type 0
      Stepped stands = Steps Took value_at m (calls.plan_at asks same hash p stands) m2 end

      r : Removes p
      r = s0.0

      stays : So (p, called.Goes)
      stays = (s0, tt)

      root_is : (word : ℕ) → word_at m (Root p.setting.root) ≡ Some word → word ≡ link
      root_is word here = let root = ap (λ (i : ℕ). word_at m (Root i)) r.root_is ∙ linked.root in cc (here, root)

      root_so : Always So (root_read p link)
      root_so = elim (cases_eq link 0) as (λ _. Always So (root_read p link)) [
        | inl none ↦ subst (λ (n : ℕ). Always So (root_read p n)) (sym none) (tableless_so p r)
        | inr some ↦ subst (λ (b : Bool). Always So (if b then Now (tableless p.missing p) else Seeing (block_in link) (λ (value : Node K V). Now (entering p (table_seen link value))))) (sym (ne_eqb link 0 some))
            (λ value. ((r, (seen_link link value, some)), tt))
      ]

      roots_so : Stepped at.Roots → So end
      roots_so s =
          let d = loaded m (root_found p) (Root p.setting.root) m2 end s in
          always_ends So (value_at m) (root_found p (Found d.0)) end (subst (λ (n : ℕ). Always So (root_read p n)) (sym (root_is d.0 d.1)) root_so) d.3

      next_is : AtTable p.trial.table → (word : ℕ) → word_at m (at_word p.trial.table NEXT) ≡ Some word → word ≡ 0
      next_is t word here =
          let none : word_at m (at_word p.trial.table NEXT) ≡ Some 0 = subst (λ (l : ℕ). word_at m (Word (block_in l) NEXT) ≡ Some 0) (sym t.0) (linked.last t.1) in cc (here, none)

      nexts_so : AtTable p.trial.table → Stepped at.Nexts → So end
      nexts_so t s =
          let d = loaded m (next_found p) (at_word p.trial.table NEXT) m2 end s in
          always_ends So (value_at m) (next_found p (Found d.0)) end (subst (λ (n : ℕ). Always So (next_read p n)) (sym (next_is t d.0 d.1)) (last_so p r)) d.3

      word_so : AtTable p.trial.table → (out : Out (Node K V)) → Always So (word_found asks same p out)
      word_so t (Found word) = read_so p r t asks same true word
      word_so t Stored = stays
      word_so t (Exchanged e) = stays
      word_so t (Made e) = stays
      word_so t (Taken value) = stays
      word_so t (Roomed e) = stays

      tried_so : AtTable p.trial.table → (word new : ℕ) (out : Out (Node K V)) → Always So (tried asks same p word new out)
      tried_so t word new (Exchanged (Ok found)) = changed_so p r word new
      tried_so t word new (Exchanged (Err found)) = read_so p r t asks same false found
      tried_so t word new (Found found) = stays
      tried_so t word new Stored = stays
      tried_so t word new (Made e) = stays
      tried_so t word new (Taken value) = stays
      tried_so t word new (Roomed e) = stays

      pub comes_steady : Steps Took value_at m (call_plan asks same hash p) m2 end → So end
      comes_steady s = by p.stands s0.1 s
        where
          by : (stands : Calling) → StandsSo p.trial.table stands → Stepped stands → So end
          by at.Roots t st = roots_so st
          by at.Probes t st = always_steps So m m2 (probes asks same p) end (word_so t) st
          by (at.Tries word new) t st = always_steps So m m2 (tries asks same p word new) end (tried_so t word new) st
          by at.Nexts t st = nexts_so t st
          by (at.Counts removed) t st = always_steps So m m2 (calls.counts p removed) end (λ out. counted_so p r removed) st
          by (at.Asks (asking.Present word)) t st = always_steps So m m2 (calls.plan_at asks same hash p (at.Asks (asking.Present word))) end stays st
          by (at.Disposes dispose answer) t st = always_steps So m m2 (disposes p dispose answer) end (always_plan_as So (disposed p answer) (disposed_so p r answer) (dispose_plan dispose)) st
          by (at.Over (ends.Answered answer)) t st = always_steps So m m2 (calls.plan_at asks same hash p (at.Over (ends.Answered answer))) end stays st
          by (at.Over (ends.Refused fault)) t st = absurd t
          by (at.Asks (asking.Absent gap)) t st = absurd t
          by (at.Asks (asking.Fills word)) t st = absurd t
          by (at.Asks (asking.GivesUp word)) t st = absurd t
          by at.Makes t st = absurd t
          by (at.Looks lookup) t st = absurd t
          by (at.Firsts making) t st = absurd t
          by (at.Allocs making) t st = absurd t
          by (at.Helps copier goal) t st = absurd t
          by (at.Copies copier) t st = absurd t
          by (at.Drops e) t st = absurd t

    -- whatever it is told
    module _ (p : KeyCall K V Q) (s0 : IsSteady p) where
      chosen_so : (kind : Takes) → (kind ≡ takes.Nothing) ⊎ (kind ≡ takes.Choices) → AtTable p.trial.table → (word : ℕ) (told : MachineReply V) → IsSteady (present_replied kind p word told).0
      chosen_so takes.Nothing is t word told = s0
      chosen_so takes.Choices is t word reply.Yes = (burying_so p s0.0 t word).0
      chosen_so takes.Choices is t word reply.No = (ending_so p s0.0 (answers.Found word)).0
      chosen_so takes.Choices is t word (reply.Insert value) = s0
      chosen_so takes.Choices is t word reply.Remove = s0
      chosen_so takes.Choices is t word reply.Abort = s0
      chosen_so takes.Values is t word told = absurd (elim is as (λ _. ⊥) [ inl e ↦ cc e | inr e ↦ cc e ])
      chosen_so takes.Changes is t word told = absurd (elim is as (λ _. ⊥) [ inl e ↦ cc e | inr e ↦ cc e ])

      pub told_steady : (told : MachineReply V) → IsSteady (replied p told).0
      told_steady told = by p.stands s0.1
        where
          by : (stands : Calling) → StandsSo p.trial.table stands → IsSteady (replied_at stands p told).0
          by (at.Asks (asking.Present word)) t = chosen_so p.replies.takes s0.0.chooses t word told
          by (at.Asks (asking.Absent gap)) t = absurd t
          by (at.Asks (asking.Fills word)) t = absurd t
          by (at.Asks (asking.GivesUp word)) t = absurd t
          by at.Roots t = s0
          by at.Probes t = s0
          by (at.Tries word new) t = s0
          by at.Nexts t = s0
          by (at.Counts removed) t = s0
          by (at.Disposes dispose answer) t = s0
          by (at.Over e) t = s0
          by at.Makes t = s0
          by (at.Looks lookup) t = s0
          by (at.Firsts making) t = s0
          by (at.Allocs making) t = s0
          by (at.Helps copier goal) t = s0
          by (at.Copies copier) t = s0
          by (at.Drops e) t = s0
