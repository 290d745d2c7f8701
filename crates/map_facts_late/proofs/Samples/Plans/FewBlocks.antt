-- A world of a few blocks: a map of two tables, of which the root has left the first. The wrong plans take their steps there, and no law holds of
-- what they leave.
use Rattle.std.specs.Prelude.{◌≡◌, ℕ, zero, suc, ◌+◌, ◌<◌, ◌≤◌, true, false, eqb, [], ◌∷◌, Some, None, Ok, Err, replicate}
use Rattle.std.proofs.Common.{refl, arith}
use Rattle.std.proofs.lemmas.Cmp.{nat_eq_equiv}
use Rattle.map_facts.specs.Given.SeizeWordsMem.{Mem, Took, value_at, word_at, with_word}
use Rattle.map_facts.specs.Given.SeizeWordsOp.{Stored, Exchanged}
use Rattle.map_facts.specs.Given.SeizeWordsPlan.{Steps}
use Rattle.map_facts.specs.Given.SeizeWordsDeclared.at.At.TheVariants.{Root, Word}
use Rattle.map_facts.specs.Given.SeizeWorld.{World, Rests, Vacant, Hand, NoBlock, Making, InUse}
use Rattle.map_facts.specs.Given.TablesDeclared.node.Node.{Node}
use Rattle.map_facts.specs.Given.TablesDeclared.node.Node.TheVariants as node
use Rattle.map_facts.specs.Given.TablesDeclared.resize_mode.ResizeMode.TheVariants.{Incremental}
use Rattle.map_facts.specs.Given.TablesDeclared.setting.Setting.{Setting}
use Rattle.map_facts.specs.Given.TablesDeclared.status.TheConstants.Status.{ABORTED}
use Rattle.map_facts.specs.Given.TablesDeclared.table.Table.{Table}
use Rattle.map_facts.specs.Given.TablesDeclared.table_words.TheConstants.{STATUS, PLACES}
use Rattle.map_facts.specs.Given.TablesLengths.{IsTableLen}
use Rattle.map_facts.specs.Given.ResizeCopierStates.{standing, resting}
use Rattle.map_facts.specs.Given.ResizeDeclared.copier.Copier.{Copier}
use Rattle.map_facts.specs.Given.ResizeDeclared.copier.Copying.TheVariants as copies
use Rattle.map_facts.specs.Given.RawCallPoints.{entering, inserting, answered_with}
use Rattle.map_facts.specs.Given.RawDeclared.machines.answer.Called.{Called}
use Rattle.map_facts.specs.Given.RawDeclared.machines.answer.KeyAnswer.TheVariants as answers
use Rattle.map_facts.specs.Given.RawDeclared.machines.answer.Missing.TheVariants as missing
use Rattle.map_facts.specs.Given.RawDeclared.machines.answer.There.TheVariants as there
use Rattle.map_facts.specs.Given.RawDeclared.machines.asking.Takes.TheVariants as takes
use Rattle.map_facts.specs.Given.RawDeclared.machines.call.KeyCall.{KeyCall}
use Rattle.map_facts.specs.Given.RuleChart.{Chart, Counted}
use Rattle.map_facts.specs.Given.RuleInWorld.{IsOut, IsMapIn, StepSpec}
use Rattle.map_facts.specs.Given.RuleMaps.{IsTable, spot_of}
use Rattle.map_facts.specs.Given.RuleMoments.{Moments}
use Rattle.map_facts.specs.Given.RuleMoves.{Move, Links, Marks, Counts, Promotes, Announces, Allowed, after}
use Rattle.map_facts.specs.Given.RuleRule.{Rule, no_table}
use Rattle.map_facts.specs.Given.RuleWords.{Blocks, Represents, RepresentsTable, place_word}
use Rattle.map_facts.proofs.Given.RuleHistory.History.{history_begins, history_kept}
use Rattle.map_facts.proofs.Given.RuleKeys.TriesSeen.{spot_inside}
use Rattle.map_facts.proofs.Given.RuleMoves.Promised.{moves_keep}
use Rattle.map_facts.proofs.Given.RuleMoves.RuleBegins.{rule_begins}
use Rattle.map_facts_late.specs.Kinds.{StepFits}
use Rattle.map_facts.specs.Steps.{AreLawful}
use Rattle.map_facts_late.proofs.Samples.Plans.{answers_at_once, tries_nothing, forgets_its_pair, stores_nothing, lowers, lowers_the_root, gives_up, aborts_a_promoted}

-- all keys have one hash
abbrev pub hash : ℕ → ℕ
hash k = 0

pub lawful : AreLawful eqb hash
lawful = record {
  lawful = record { classes = nat_eq_equiv; respects = λ len j k other e. refl; within = λ len j k some. spot_inside len 0 j some };
  fits = λ k. omega arith;
}

abbrev pub setting : Setting
setting = record { slot = 0; batch_size = 1; root = 0; mode = Incremental 64; counter = 1; mask = 0; initial = 8 }

-- The map's tables by the moves that led there: two tables of eight places, of which the first is empty; caller 5 marked its places, counted them, and
-- promoted the second.
abbrev pub with_move : Move ℕ → Chart ℕ → Chart ℕ
with_move move c = after (spot_of hash) true move c

abbrev linked : Chart ℕ
linked = with_move (Links 8 7) (with_move (Links 8 7) no_table)

abbrev marked : Chart ℕ
marked = with_move (Marks 5 7) (with_move (Marks 5 6) (with_move (Marks 5 5) (with_move (Marks 5 4) (with_move (Marks 5 3) (with_move (Marks 5 2) (with_move (Marks 5 1) (with_move (Marks 5 0) linked)))))))

abbrev counted : Chart ℕ
counted = with_move (Counts 5 1 8) marked

abbrev pub chart : Chart ℕ
chart = with_move (Announces 1) (with_move (Promotes 1) counted)

-- the rule holds of them, and they have a history
abbrev pub Stands : Chart ℕ → Type 0
Stands c = Rule eqb (spot_of hash) true c × Moments true c

pub moved : (move : Move ℕ) (c : Chart ℕ) → Stands c → Allowed eqb (spot_of hash) true move c → Stands (with_move move c)
moved move c s may = ((moves_keep eqb (spot_of hash) true lawful.lawful move c s.0 may).0, (history_kept eqb (spot_of hash) true lawful.lawful move c s.0 s.1 may).0)

-- of the eight places of a table
pub each : (P : ℕ → Type 0) → P 0 → P 1 → P 2 → P 3 → P 4 → P 5 → P 6 → P 7 → (i : ℕ) → i < 8 → P i
each P a b c d e f g h zero l = a
each P a b c d e f g h (suc zero) l = b
each P a b c d e f g h (suc (suc zero)) l = c
each P a b c d e f g h (suc (suc (suc zero))) l = d
each P a b c d e f g h (suc (suc (suc (suc zero)))) l = e
each P a b c d e f g h (suc (suc (suc (suc (suc zero))))) l = f
each P a b c d e f g h (suc (suc (suc (suc (suc (suc zero)))))) l = g
each P a b c d e f g h (suc (suc (suc (suc (suc (suc (suc zero))))))) l = h
each P a b c d e f g h (suc (suc (suc (suc (suc (suc (suc (suc i)))))))) l = absurd (omega (arith, l))

pub stands : Stands chart
stands =
    let a = moved (Links 8 7) no_table (rule_begins eqb (spot_of hash) true, history_begins ℕ true) (omega arith, omega arith, tt) in
    let b = moved (Links 8 7) (with_move (Links 8 7) no_table) a (omega arith, omega arith, tt) in
    let c = moved (Marks 5 0) linked b (refl, omega arith, omega arith, refl) in
    let d = moved (Marks 5 1) (with_move (Marks 5 0) linked) c (refl, omega arith, omega arith, refl) in
    let e = moved (Marks 5 2) (with_move (Marks 5 1) (with_move (Marks 5 0) linked)) d (refl, omega arith, omega arith, refl) in
    let f = moved (Marks 5 3) _ e (refl, omega arith, omega arith, refl) in
    let g = moved (Marks 5 4) _ f (refl, omega arith, omega arith, refl) in
    let h = moved (Marks 5 5) _ g (refl, omega arith, omega arith, refl) in
    let i = moved (Marks 5 6) _ h (refl, omega arith, omega arith, refl) in
    let j = moved (Marks 5 7) _ i (refl, omega arith, omega arith, refl) in
    let k = moved (Counts 5 1 8) marked j (omega arith, λ l. refl) in
    let l = moved (Promotes 1) counted k (omega arith, omega arith, each (λ p. counted.share 1 p ≡ Counted) refl refl refl refl refl refl refl refl, refl) in
    moved (Announces 1) _ l (omega arith, omega arith, λ e. cc e)

-- Block 1 is the counter, blocks 2 and 3 are the tables, and block 4 is a pair that caller 5 has made.
abbrev pub memory : Mem (Node ℕ ℕ)
memory = record {
  roots = 6144 ∷ [];
  used = 1 ∷ [];
  slots = [];
  blocks = Some (record { value = node.Shards; entry = replicate 4 0; words = 0 ∷ [] })
      ∷ Some (record { value = node.Table 8 7 0; entry = replicate 4 0; words = 6144 ∷ 0 ∷ 0 ∷ 2 ∷ 0 ∷ replicate 8 1 })
      ∷ Some (record { value = node.Table 8 7 1; entry = replicate 4 0; words = 0 ∷ 0 ∷ 8 ∷ 2 ∷ 0 ∷ replicate 8 0 })
      ∷ Some (record { value = node.Pair 7 9; entry = replicate 4 0; words = [] }) ∷ [];
  choices = [];
}

abbrev hand_of : ℕ → Hand
hand_of zero = NoBlock
hand_of (suc zero) = Making 0
hand_of (suc (suc zero)) = InUse 1
hand_of (suc (suc (suc zero))) = InUse 1
hand_of (suc (suc (suc (suc zero)))) = Making 5
hand_of (suc (suc (suc (suc (suc b))))) = NoBlock

abbrev world : World (Node ℕ ℕ)
world = record { memory = memory; row = λ i. Rests; uses = λ s. Vacant; hand = hand_of; log = [] }

abbrev blocks : Blocks
blocks = record { table = λ t. suc (suc t); pair = λ n. 0; table_known = λ t. true; pair_known = λ n. false }

pub length_fits : IsTableLen 8
length_fits = record { power = (3, refl); least = omega arith; most = omega arith }

-- of the two tables
pub both : (P : ℕ → Type 0) → P 0 → P 1 → (t : ℕ) → t < 2 → P t
both P first second zero l = first
both P first second (suc zero) l = second
both P first second (suc (suc t)) l = absurd (omega (arith, l))

first_shown : RepresentsTable hash memory chart blocks 0
first_shown = record {
  value = refl;
  next = refl;
  claim = refl;
  copied = refl;
  status = refl;
  places = each (λ i. word_at memory (Word 2 (i + PLACES)) ≡ Some (place_word hash chart blocks (chart.place 0 i))) refl refl refl refl refl refl refl refl;
}

second_shown : RepresentsTable hash memory chart blocks 1
second_shown = record {
  value = refl;
  next = refl;
  claim = refl;
  copied = refl;
  status = refl;
  places = each (λ i. word_at memory (Word 3 (i + PLACES)) ≡ Some (place_word hash chart blocks (chart.place 1 i))) refl refl refl refl refl refl refl refl;
}

shown : Represents hash memory chart blocks 0
shown = record {
  root_there = refl;
  tables = λ t made known. both (RepresentsTable hash memory chart blocks) first_shown second_shown t made;
  pairs = λ n stored known. absurd (omega (arith, stored));
  sized = both (λ t. IsTableLen (chart.len t)) length_fits length_fits;
  linked = λ t from made. refl;
  named = λ t i n phase borrowed made known holds. absurd (let stored = (stands.0.common.keyed t i n phase borrowed holds).0 in omega (arith, stored));
  table_numbers = λ t made known. (omega arith, omega (arith, made));
  pair_numbers = λ n stored known. absurd (omega (arith, stored));
  tables_apart = λ t u made made2 known known2 same. omega (arith, same);
  pairs_apart = λ n o stored stored2 known known2 same. absurd (omega (arith, stored));
}

-- the map stands there
is_map : IsMapIn eqb hash setting world chart blocks
is_map = record {
  map = record { rule = stands.0; shows = shown; later = λ t u before made known. refl };
  counter = refl;
  shards = shard;
  tables = λ t from made. both (λ u. hand_of (suc (suc u)) ≡ InUse 1) refl refl t made;
  pairs = λ n current. absurd (cc current);
  named = λ t i n phase borrowed from made holds. absurd (let stored = (stands.0.common.keyed t i n phase borrowed holds).0 in omega (arith, stored));
  tables_out = λ t made known. both (λ u. IsOut (hand_of (suc (suc u)))) tt tt t made;
  pairs_out = λ n stored known. absurd (omega (arith, stored));
}
  where
    shard : (s : ℕ) → s ≤ 0 → (count : ℕ) × (word_at memory (Word 1 s) ≡ Some count)
    shard zero l = (0, refl)
    shard (suc s) l = absurd (omega (arith, l))

abbrev old : Table
old = record { link = 4096; len = 8; limit = 7; turn = 0 }

abbrev pub new : Table
new = record { link = 6144; len = 8; limit = 7; turn = 1 }

-- a copier that has come late: the first table was copied
abbrev late : Copier
late = resting setting false old new copies.Asks

old_is : IsTable chart blocks late.source 0
old_is = record { made = omega arith; known = refl; is = refl }

new_is : IsTable chart blocks late.target 1
new_is = record { made = omega arith; known = refl; is = refl }

-- Such a copier writes a lower root: it can, and no law holds of what it leaves.
lowers_steps : (m : Mem (Node ℕ ℕ)) × (end : Copier × ℕ) × Steps Took value_at memory (lowers late) m end
lowers_steps = (with_word memory (Root 0) 4096, (standing late copies.Announces, 0), (Stored, (tt, refl), refl))

lowers_is_refused : (m : Mem (Node ℕ ℕ)) (end : Copier × ℕ) → Steps Took value_at memory (lowers late) m end → (Told : World (Node ℕ ℕ) → Chart ℕ → Blocks → Type 0)
    → StepSpec eqb hash setting 5 world chart blocks m Told → ⊥
lowers_is_refused m end s Told went = lowers_the_root eqb hash setting lawful 5 world chart blocks is_map stands.1 late refl m end Told went 0 old_is (omega arith) s

-- It says that the second table is given up, which was promoted.
gives_up_steps : (m : Mem (Node ℕ ℕ)) × (end : Copier × ℕ) × Steps Took value_at memory (gives_up late) m end
gives_up_steps = (with_word memory (Word 3 STATUS) ABORTED, (standing late copies.Aborts, 0), (Stored, (tt, refl), refl))

gives_up_is_refused : (m : Mem (Node ℕ ℕ)) (end : Copier × ℕ) → Steps Took value_at memory (gives_up late) m end → (Told : World (Node ℕ ℕ) → Chart ℕ → Blocks → Type 0)
    → StepSpec eqb hash setting 5 world chart blocks m Told → ⊥
gives_up_is_refused m end s Told went = aborts_a_promoted eqb hash setting lawful 5 world chart blocks is_map stands.1 late refl m end Told went 1 new_is refl s

-- An insertion is at the first place of a table, with the pair that its caller has made.
abbrev insertion : Table → KeyCall ℕ ℕ ℕ
insertion table = record (entering (inserting setting 0 7 9) table).0 { own = 8192; unmade = None }

-- It answers that the key was missing: at once;
at_once_steps : (m : Mem (Node ℕ ℕ)) × (end : KeyCall ℕ ℕ ℕ × Called (Node ℕ ℕ)) × Steps Took value_at memory (answers_at_once (insertion new)) m end
at_once_steps = (memory, answered_with (insertion new) answers.Absent, (refl, refl))

at_once_is_refused : (m : Mem (Node ℕ ℕ)) (end : KeyCall ℕ ℕ ℕ × Called (Node ℕ ℕ)) → Steps Took value_at memory (answers_at_once (insertion new)) m end → StepFits there.Puts missing.Puts takes.Nothing end → ⊥
at_once_is_refused m end s fits = tries_nothing there.Puts takes.Nothing (insertion new) memory m end s fits

-- as it has lost its exchange, since its place in the first table is marked by now, so that its pair is nowhere;
forgets_steps : (m : Mem (Node ℕ ℕ)) × (end : KeyCall ℕ ℕ ℕ × Called (Node ℕ ℕ)) × Steps Took value_at memory (forgets_its_pair (insertion old)) m end
forgets_steps = (memory, answered_with (insertion old) answers.Absent, (Exchanged (Err 1), ((refl, λ e. cc e), refl), refl))

-- or although its pair stands in the second one now.
hides_steps : (m : Mem (Node ℕ ℕ)) × (end : KeyCall ℕ ℕ ℕ × Called (Node ℕ ℕ)) × Steps Took value_at memory (forgets_its_pair (insertion new)) m end
hides_steps = (with_word memory (Word 3 PLACES) 8192, answered_with (insertion new) answers.Absent, (Exchanged (Ok 0), ((refl, refl), refl), refl))

forgets_is_refused : (table : Table) (m : Mem (Node ℕ ℕ)) (end : KeyCall ℕ ℕ ℕ × Called (Node ℕ ℕ)) → Steps Took value_at memory (forgets_its_pair (insertion table)) m end
    → StepFits there.Puts missing.Puts takes.Nothing end → ⊥
forgets_is_refused table m end s fits = stores_nothing there.Puts takes.Nothing (insertion table) memory m end s fits
