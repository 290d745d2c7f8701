-- The moves by which a pair comes to a next table, in both modes, each allowed where it is made: so the rule can be met through a whole resize.
use Rattle.std.proofs.Common.{◌≡◌, ℕ, ◌<◌, true, false, eqb, refl, arith}
use Rattle.std.proofs.lemmas.Cmp.{nat_eq_equiv}
use Rattle.map_rule.specs.Chart.{Still, Chart}
use Rattle.map_rule.specs.Rule.{IsLawful, Rule, no_table}
use Rattle.map_rule.specs.Moves.{Links, Stores, Marks, MarksBlocking, Claims, Puts, Covers, Counts, Promotes, after}
use Rattle.map_rule.proofs.Moves.Promised.{moves_keep}
use Rattle.map_rule.proofs.Moves.RuleBegins.{rule_begins}

-- tables of one place: caller 5 copies the one pair, whose key is 7
abbrev pub spot : ℕ → ℕ → ℕ → ℕ
spot len k j = 0

lawful : IsLawful eqb spot
lawful = record { classes = nat_eq_equiv; respects = λ len j k other e. refl; within = λ len j k l. l }

abbrev pub rooted : Chart ℕ
rooted = after spot true (Links 1 0) no_table

abbrev pub stored : Chart ℕ
stored = after spot true (Stores 0 7 0) rooted

abbrev followed : Chart ℕ
followed = after spot true (Links 1 0) stored

the_place : (j : ℕ) → j < 1 → j ≡ 0
the_place j l = omega arith

-- in incremental mode
abbrev pub marked : Chart ℕ
marked = after spot true (Marks 5 0) followed

abbrev lent : Chart ℕ
lent = after spot true (Puts 5 0 1 7 0) marked

abbrev covered : Chart ℕ
covered = after spot true (Covers 5 0) lent

abbrev pub counted : Chart ℕ
counted = after spot true (Counts 5 1 1) covered

promoted : Rule eqb spot true (after spot true (Promotes 1) counted)
promoted =
    let keeps = moves_keep eqb spot true lawful in
    let a = (keeps (Links 1 0) no_table (rule_begins eqb spot true) (omega arith, omega arith, tt)).0 in
    let b = (keeps (Stores 0 7 0) rooted a (omega arith, omega arith, omega arith, refl, λ g l. absurd (omega arith), λ u l. absurd (omega arith))).0 in
    let c = (keeps (Links 1 0) stored b (omega arith, omega arith, tt)).0 in
    let d = (keeps (Marks 5 0) followed c (refl, omega arith, omega arith, refl)).0 in
    let e =
    (keeps (Puts 5 0 1 7 0) marked d
    (omega arith, omega arith, omega arith, omega arith, refl, λ g l. absurd (omega arith), (0, false, refl, refl), (refl, λ t i l. grind arith, λ u l m. absurd (omega arith)))).0 in
    let f = (keeps (Covers 5 0) lent e (refl, omega arith, refl, λ n borrowed h. (1, 0, omega arith, grind arith))).0 in
    let g = (keeps (Counts 5 1 1) covered f (omega arith, λ l. refl)).0 in
    (keeps (Promotes 1) counted g (omega arith, omega arith, λ j l. grind (arith, the_place j), refl)).0

-- at once
abbrev claimed : Chart ℕ
claimed = after spot false (Claims 5 1 1) followed

abbrev marked_blocking : Chart ℕ
marked_blocking = after spot false (MarksBlocking 0) claimed

abbrev put_blocking : Chart ℕ
put_blocking = after spot false (Puts 5 0 1 7 0) marked_blocking

abbrev pub counted_blocking : Chart ℕ
counted_blocking = after spot false (Counts 5 1 1) put_blocking

promoted_blocking : Rule eqb spot false (after spot false (Promotes 1) counted_blocking)
promoted_blocking =
    let keeps = moves_keep eqb spot false lawful in
    let a = (keeps (Links 1 0) no_table (rule_begins eqb spot false) (omega arith, omega arith, λ u l m. absurd (omega arith))).0 in
    let b = (keeps (Stores 0 7 0) rooted a (omega arith, omega arith, omega arith, refl, λ g l. absurd (omega arith), refl)).0 in
    let c = (keeps (Links 1 0) stored b (omega arith, omega arith, λ u l m. absurd (omega arith))).0 in
    let d = (keeps (Claims 5 1 1) followed c (refl, omega arith)).0 in
    let e = (keeps (MarksBlocking 0) claimed d (refl, omega arith, 0, Still, false, refl)).0 in
    let f =
    (keeps (Puts 5 0 1 7 0) marked_blocking e (omega arith, omega arith, omega arith, omega arith, refl, λ g l. absurd (omega arith), (0, false, refl, refl), refl)).0 in
    let g = (keeps (Counts 5 1 1) put_blocking f (omega arith, λ l. refl)).0 in
    (keeps (Promotes 1) counted_blocking g (omega arith, omega arith, λ j l. grind (arith, the_place j), tt)).0
