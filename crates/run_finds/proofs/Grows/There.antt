-- What the tables of a map tell a call on one key that looks for a place, or for a next table: in blocking mode a place of the root's table that sends it on has a next
-- table, and the last table has none.
use Rattle.std.specs.Prelude.{◌≡◌, ℕ, suc, ◌<◌, ◌==◌, Bool, true, false, Some, if◌then◌else◌}
use Rattle.std.proofs.Common.{refl, ap, sym, subst, ◌∙◌, inl, inr, arith}
use Rattle.run_executor.specs.Given.SeizeWordsMem.{Mem, word_at}
use Rattle.run_executor.specs.Given.SeizeWordsWord.{block_in}
use Rattle.run_executor.specs.Given.SeizeWorld.{World}
use Rattle.run_blocks.specs.Given.TablesChunks.{is_incremental}
use Rattle.run_blocks.specs.Given.TablesFinding.{finding, shut, vacant, marked, named}
use Rattle.run_blocks.specs.Given.TablesMarks.{has_mark}
use Rattle.run_blocks.specs.Given.TablesTablePlaces.{at_word, at_place}
use Rattle.run_blocks.specs.Given.TablesTrials.{place_tried}
use Rattle.run_blocks.specs.Given.TablesDeclared.finding.Aim.{Aim}
use Rattle.run_blocks.specs.Given.TablesDeclared.finding.Finding.{Finding}
use Rattle.run_blocks.specs.Given.TablesDeclared.finding.Finding.TheVariants as finds
use Rattle.run_blocks.specs.Given.TablesDeclared.marks.TheConstants.{COPYING}
use Rattle.run_blocks.specs.Given.TablesDeclared.node.Node.{Node}
use Rattle.run_blocks.specs.Given.TablesDeclared.resize_mode.ResizeMode.{ResizeMode}
use Rattle.run_blocks.specs.Given.TablesDeclared.setting.Setting.{Setting}
use Rattle.run_blocks.specs.Given.TablesDeclared.table.Table.{Table}
use Rattle.run_blocks.specs.Given.TablesDeclared.table_words.TheConstants.{NEXT}
use Rattle.run_blocks.specs.Given.TablesDeclared.trial.Trial.{Trial}
use Rattle.run_executor.specs.Given.RawCallPoints.{aim_of}
use Rattle.run_executor.specs.Given.RawDeclared.machines.call.Calling.{Calling}
use Rattle.run_executor.specs.Given.RawDeclared.machines.call.Calling.TheVariants as at
use Rattle.run_executor.specs.Given.RawDeclared.machines.call.KeyCall.{KeyCall}
use Rattle.run_executor.specs.Given.RuleChart.{Place, Chart, is_marked}
use Rattle.run_executor.specs.Given.RuleInWorld.{IsMapIn}
use Rattle.run_executor.specs.Given.RuleMaps.{spot_at, spot_of, IsTable, IsTrial}
use Rattle.run_executor.specs.Given.RuleRule.{Rule}
use Rattle.run_executor.specs.Given.RuleWords.{Blocks, byte_of, place_word}
use Rattle.run_executor.proofs.Given.RuleKeys.TriesSeen.{spot_inside}
use Rattle.run_executor.proofs.Given.RuleWords.LinksSeen.{link_made, next_leads}
use Rattle.run_executor.proofs.Given.RuleWords.PlaceWordsMarks.{has_copying}
use Rattle.run_executor.proofs.Given.RuleWords.TablesSeen.{place_there, link_not_zero}
use Rattle.run_executor.specs.Given.PointsFactsCalls.{Change, CallingFacts}
use Rattle.run_executor.specs.Given.PointsTold.{IsRowOfCall}
use Rattle.run_executor.specs.Given.LateLateCalls.{SupersededCalling}
use Rattle.run_executor.specs.Given.LateLeft.{Left}
use Rattle.run_executor.specs.Given.CallersSights.{Visible, seen_by, IsVisibility}
use Rattle.run_executor.specs.Given.CallersTogether.{CallOnKey, in_slot, Knows}
use Rattle.run_finds.proofs.Grows.On.{TableTells}
use Rattle.run_executor.proofs.Given.General.{equal_so as number_is}

-- In blocking mode a call goes on from a place only where its word has the mark of copying.

vacant_marked : (aim : Aim) (word : ℕ) → vacant false aim word ≡ finds.Moved → has_mark word COPYING ≡ true
vacant_marked aim word moved = by (word == 0) (word == COPYING) refl moved
  where
    by : (x y : Bool) → (word == COPYING) ≡ y → (if x then finds.Free else (if y then shut aim else finds.Passed)) ≡ finds.Moved → has_mark word COPYING ≡ true
    by true y e is = absurd (cc is)
    by false true e is = subst (λ (n : ℕ). has_mark n COPYING ≡ true) (sym (number_is word COPYING e)) refl
    by false false e is = absurd (cc is)

named_marked : (aim : Aim) (word : ℕ) → named false aim word ≡ finds.Moved → has_mark word COPYING ≡ true
named_marked aim word moved = by (has_mark word COPYING) moved
  where
    by : (x : Bool) → (if x then marked false aim else finds.There) ≡ finds.Moved → x ≡ true
    by true is = refl
    by false is = absurd (cc is)

abbrev found_as : Aim → ℕ → Bool → Bool → Bool → Finding
found_as aim word incremental none same = if none then vacant incremental aim word else (if same then named incremental aim word else finds.Passed)

pub moved_marked : (mode : ResizeMode) (aim : Aim) (word : ℕ) (same : Bool) → is_incremental mode ≡ false → finding mode aim word same ≡ finds.Moved → has_mark word COPYING ≡ true
moved_marked mode aim word same alone moved = by (block_in word == 0) same (sym (ap (λ (x : Bool). found_as aim word x (block_in word == 0) same) alone) ∙ moved)
  where
    by : (none it : Bool) → found_as aim word false none it ≡ finds.Moved → has_mark word COPYING ≡ true
    by true it is = vacant_marked aim word is
    by false true is = named_marked aim word is
    by false false is = absurd (cc is)

module _ {K V : Type 0} (same : K → K → Bool) (hash : K → ℕ) (setting : Setting) (w : World (Node K V)) (c : Chart K) (blocks : Blocks) (map : IsMapIn same hash setting w c blocks) where
  -- in blocking mode
  rule_alone : is_incremental setting.mode ≡ false → Rule same (spot_of hash) false c
  rule_alone alone = subst (λ (x : Bool). Rule same (spot_of hash) x c) alone map.map.rule

  module _ (trial : Trial) (code t j : ℕ) (is : IsTrial c blocks trial code t j) (word : ℕ) (read : word_at w.memory (place_tried trial) ≡ Some word) where
    abbrev spot : ℕ
    spot = spot_at (c.len t) code j

    abbrev here : Place
    here = c.place t spot

    word_there : word_at w.memory (place_tried trial) ≡ Some (place_word hash c blocks here)
    word_there =
        ap (λ (i : ℕ). word_at w.memory (at_place trial.table i)) is.place
        ∙ place_there hash w.memory c blocks setting.root map.map.shows trial.table t is.table spot (spot_inside (c.len t) code j (map.map.rule.common.lens t is.table.made).0)

    word_is : word ≡ place_word hash c blocks here
    word_is = cc (read, word_there)

    place_marked : has_mark word COPYING ≡ true → is_marked here ≡ true
    place_marked mark = sym (has_copying blocks.pair (λ n. byte_of hash (c.key n)) here) ∙ ap (λ (x : ℕ). has_mark x COPYING) (sym word_is) ∙ mark

    -- a marked place of the root's table
    pub next_follows : is_incremental setting.mode ≡ false → t ≡ c.first → has_mark word COPYING ≡ true → suc t < c.past
    next_follows alone root mark =
        let in_root : is_marked (c.place c.first spot) ≡ true = subst (λ (u : ℕ). is_marked (c.place u spot) ≡ true) root (place_marked mark) in
        let next = (rule_alone alone).in_mode.marked_has_next spot in_root in omega (arith, next, root)

  -- a table that the root has left has a next one
  pub left_has_next : (began t : ℕ) → t < c.past → Left c began t → suc t < c.past
  left_has_next began t made left =
      let behind = left.behind in let rooted = map.map.rule.common.rooted (omega (arith, made)) in omega (arith, behind, rooted)

  -- and the last one none
  pub last_has_none : (table : Table) (t : ℕ) → IsTable c blocks table t → word_at w.memory (at_word table NEXT) ≡ Some 0 → suc t < c.past → ⊥
  last_has_none table t entered read before =
      (let link = link_made c blocks 0 (suc t) (next_leads same hash setting.mode setting.root w.memory c blocks map.map table t 0 entered read) before in
      link_not_zero hash w.memory c blocks setting.root map.map.shows (suc t) link.1 link.2 (sym link.0))

-- What a call sees of its table is so.
pub unseen : {K : Type 0} (c : Chart K) (blocks : Blocks) (sight : Visible) → IsVisibility c blocks sight → (table : Table) (t : ℕ) → IsTable c (seen_by blocks sight) table t → IsTable c blocks table t
unseen c blocks sight is table t entered = record { made = entered.made; known = is.tables t entered.made entered.known; is = entered.is }

unseen_trial : {K : Type 0} (c : Chart K) (blocks : Blocks) (sight : Visible) → IsVisibility c blocks sight → (trial : Trial) (code t j : ℕ) → IsTrial c (seen_by blocks sight) trial code t j
    → IsTrial c blocks trial code t j
unseen_trial c blocks sight is trial code t j at_try =
    record { table = unseen c blocks sight is trial.table t at_try.table; place = at_try.place; try = at_try.try; most = at_try.most }

-- By the point at which it stands.
module _ {K V : Type 0} (same : K → K → Bool) (hash : K → ℕ) (setting : Setting) (slot : ℕ → ℕ) (w : World (Node K V)) (c : Chart K) (blocks : Blocks) (sight : Visible)
    (map : IsMapIn same hash setting w c blocks) (is_sight : IsVisibility c blocks sight) (i : ℕ) (p : KeyCall K V K) (setting_is : p.setting ≡ in_slot setting (slot i)) where
  abbrev seen : Blocks
  seen = seen_by blocks sight

  alone_as : is_incremental p.setting.mode ≡ false → is_incremental setting.mode ≡ false
  alone_as alone = ap (λ (x : Setting). is_incremental x.mode) (sym setting_is) ∙ alone

  turn_at : (t : ℕ) → IsTable c blocks p.trial.table t → p.trial.table.turn ≡ t
  turn_at t entered = ap (λ (x : Table). x.turn) entered.is

  as_turn : (t : ℕ) → IsTable c blocks p.trial.table t → suc t < c.past → suc p.trial.table.turn < c.past
  as_turn t entered before = let turn = turn_at t entered in omega (arith, turn, before)

  at_place_of_root : (t j : ℕ) → IsTrial c seen p.trial p.hash t j → (is_incremental setting.mode ≡ false → t ≡ c.first) → (word : ℕ) → word_at w.memory (place_tried p.trial) ≡ Some word
      → has_mark word COPYING ≡ true → is_incremental p.setting.mode ≡ false → suc p.trial.table.turn < c.past
  at_place_of_root t j trial root word read mark alone =
      let here = unseen_trial c blocks sight is_sight p.trial p.hash t j trial in
      as_turn t here.table (next_follows same hash setting w c blocks map p.trial p.hash t j here word read (alone_as alone) (root (alone_as alone)) mark)

  at_place_left : (began t j : ℕ) → IsTrial c seen p.trial p.hash t j → Left c began t → suc p.trial.table.turn < c.past
  at_place_left began t j trial left =
      let here = unseen_trial c blocks sight is_sight p.trial p.hash t j trial in as_turn t here.table (left_has_next same hash setting w c blocks map began t here.table.made left)

  at_last_table : (t : ℕ) → IsTable c seen p.trial.table t → word_at w.memory (at_word p.trial.table NEXT) ≡ Some 0 → suc p.trial.table.turn < c.past → ⊥
  at_last_table t entered read before =
      (let here = unseen c blocks sight is_sight p.trial.table t entered in
      let turn = turn_at t here in last_has_none same hash setting w c blocks map p.trial.table t here read (omega (arith, turn, before)))

  module _ (keys : K → Bool) where
    at_current : (change : Change) (q : Calling) → CallingFacts same hash same w i (in_slot setting (slot i)) c seen keys change p q → TableTells c.past p w.memory q
    at_current change at.Probes facts = λ word read flag moved alone.
        at_place_of_root facts.1.0 facts.1.1 facts.1.2 facts.1.4 word read (moved_marked p.setting.mode (aim_of p.missing) word flag alone moved) alone
    at_current change (at.Tries word new) facts = λ found read flag moved alone.
        at_place_of_root facts.2.0 facts.2.1 facts.2.2 facts.2.4 found read (moved_marked p.setting.mode (aim_of p.missing) found flag alone moved) alone
    at_current change at.Nexts facts = λ read before. at_last_table facts.1 facts.2.0 read before
    at_current change at.Makes facts = tt
    at_current change (at.Looks lookup) facts = tt
    at_current change at.Roots facts = tt
    at_current change (at.Counts removed) facts = tt
    at_current change (at.Firsts making) facts = tt
    at_current change (at.Allocs making) facts = tt
    at_current change (at.Helps copier goal) facts = tt
    at_current change (at.Copies copier) facts = tt
    at_current change (at.Asks asks_at) facts = tt
    at_current change (at.Disposes dispose answer) facts = tt
    at_current change (at.Drops end) facts = tt
    at_current change (at.Over end) facts = tt

    at_late : (began : ℕ) (q : Calling) → SupersededCalling same hash same w i (in_slot setting (slot i)) c seen keys began p q → TableTells c.past p w.memory q
    at_late began at.Probes late = λ word read flag moved alone. at_place_left began late.1.0 late.1.1 late.1.2 late.1.4
    at_late began (at.Tries word new) late = λ found read flag moved alone. at_place_left began late.1.0 late.1.1 late.1.2 late.1.4
    at_late began at.Nexts late = λ read before. at_last_table late.1 late.2 read before
    at_late began at.Makes late = tt
    at_late began (at.Looks lookup) late = tt
    at_late began at.Roots late = tt
    at_late began (at.Counts removed) late = tt
    at_late began (at.Firsts making) late = tt
    at_late began (at.Allocs making) late = tt
    at_late began (at.Helps copier goal) late = tt
    at_late began (at.Copies copier) late = tt
    at_late began (at.Asks asks_at) late = tt
    at_late began (at.Disposes dispose answer) late = tt
    at_late began (at.Drops end) late = tt
    at_late began (at.Over end) late = tt

-- So it is of a call that knows what its point says,
pub table_tells : {K V : Type 0} (same : K → K → Bool) (hash : K → ℕ) (setting : Setting) (slot : ℕ → ℕ) (w : World (Node K V)) (c : Chart K) (blocks : Blocks) (sight : Visible)
    → IsMapIn same hash setting w c blocks → IsVisibility c blocks sight → (i : ℕ) (u : CallOnKey K V K) (p : KeyCall K V K) → Knows V same hash same setting slot w c (seen_by blocks sight) i u p
    → TableTells c.past p w.memory p.stands
table_tells same hash setting slot w c blocks sight map is_sight i u p knows = elim (knows.facts) as (λ _. TableTells c.past p w.memory p.stands) [
  | inl facts ↦ at_current same hash setting slot w c blocks sight map is_sight i p facts.setting_is u.keys u.change p.stands facts.point
  | inr late ↦ at_late same hash setting slot w c blocks sight map is_sight i p late.1.setting_is u.keys u.began p.stands late.1.point
]

-- and within a row it reads no such word.
pub row_tells : {K V : Type 0} (had : ℕ) (p : KeyCall K V K) (m : Mem (Node K V)) (q : Calling) → IsRowOfCall q → TableTells had p m q
row_tells had p m at.Probes row = absurd row
row_tells had p m (at.Tries word new) row = absurd row
row_tells had p m at.Nexts row = absurd row
row_tells had p m _ row = tt
