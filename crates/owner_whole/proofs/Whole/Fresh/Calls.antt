-- No call knows both what its point says in the root's table, and what is to be known in one that the root has left.
use Rattle.std.specs.Prelude.{◌≡◌, ℕ, suc, ◌*◌, ◌<◌, ◌≤◌, Bool, true, false, cond}
use Rattle.std.proofs.Common.{refl, ap, sym, subst, ◌∙◌, arith}
use Rattle.std.proofs.lemmas.Bool.{ne_eqb}
use Rattle.seize_words.specs.declared.at.At.TheVariants.{Root}
use Rattle.seize.specs.World.{World}
use Rattle.map_tables.specs.Chunks.{is_incremental}
use Rattle.map_tables.specs.declared.node.Node.{Node}
use Rattle.map_tables.specs.declared.setting.Setting.{Setting}
use Rattle.map_tables.specs.declared.table.Table.{Table}
use Rattle.map_measures.specs.Given.ResizeDeclared.copier.Copier.{Copier}
use Rattle.map_measures.specs.Given.ResizeDeclared.copier.Copying.{Copying}
use Rattle.map_measures.specs.Given.ResizeDeclared.copier.Copying.TheVariants as copies
use Rattle.map_measures.specs.Given.ResizeDeclared.lookup.Looking.{Looking}
use Rattle.map_measures.specs.Given.ResizeDeclared.lookup.Looking.TheVariants as looks
use Rattle.map_measures.specs.Given.ResizeDeclared.new_table.Making.{Making}
use Rattle.map_measures.specs.Given.ResizeDeclared.new_table.Making.TheVariants as makes
use Rattle.papaya_raw.specs.declared.machines.asking.Asking.{Asking}
use Rattle.papaya_raw.specs.declared.machines.asking.Asking.TheVariants as asking
use Rattle.papaya_raw.specs.declared.machines.asking.Gap.{Gap}
use Rattle.papaya_raw.specs.declared.machines.asking.Gap.TheVariants as gaps
use Rattle.papaya_raw.specs.declared.machines.call.KeyCall.{KeyCall}
use Rattle.papaya_raw.specs.declared.machines.call.Calling.{Calling}
use Rattle.papaya_raw.specs.declared.machines.call.Calling.TheVariants as at
use Rattle.map_measures.specs.Given.RuleChart.{Chart}
use Rattle.map_measures.specs.Given.RuleWords.{Blocks, root_word}
use Rattle.map_measures.specs.Given.RuleMaps.{spot_of, IsTable}
use Rattle.map_measures.specs.Given.RuleRule.{ShutBefore}
use Rattle.map_measures.specs.Given.RuleInWorld.{IsMapIn}
use Rattle.owner_facts.specs.Given.PointsFactsTables.{MakingFacts}
use Rattle.map_measures.specs.Given.PointsFactsLooks.{LookingFacts}
use Rattle.owner_facts.specs.Given.PointsFactsCopiesBlocking.{CopiesInto, CopyingFactsBlocking}
use Rattle.owner_facts.specs.Given.PointsFactsCalls.{Change, AtTry, ShutUpTo, GapFacts, AskingFacts, CallingFacts, CallFacts}
use Rattle.owner_facts.specs.Given.LateLeft.{Left}
use Rattle.map_measures.specs.Given.LateLateLooks.{IsSupersededTrial, SupersededLooking}
use Rattle.map_measures.specs.Given.LateLateCopies.{CopiesSuperseded, SupersededCopying}
use Rattle.owner_facts.specs.Given.LateLateCalls.{SupersededFirst, SupersededGap, SupersededAsking, SupersededCalling, SupersededCallFacts}

-- the same tables, by what may be looked at in two ways
module _ {K V : Type 0} (same : K → K → Bool) (hash : K → ℕ) (setting : Setting) (blocking : is_incremental setting.mode ≡ false) (w : World (Node K V)) (caller : ℕ) (c : Chart K)
    (blocks seen : Blocks) (map : IsMapIn same hash setting w c blocks) (sees : IsMapIn same hash setting w c seen) (began : ℕ) where
  one_turn : (table : Table) (t u : ℕ) → IsTable c blocks table t → IsTable c seen table u → t ≡ u
  one_turn table t u a b = ap (λ (x : Table). x.turn) (sym a.is ∙ b.is)

  -- the root has not left its own table
  none_left : (t u : ℕ) → t ≡ c.first → t ≡ u → Left c began u → ⊥
  none_left t u root one left = let l = left.behind in omega (arith, root, one, l)

  pub table_none : (table : Table) (t u : ℕ) → t ≡ c.first → IsTable c blocks table t → IsTable c seen table u → Left c began u → ⊥
  table_none table t u root a b left = none_left t u root (one_turn table t u a b) left

  source_none : (p : Copier) (t u v : ℕ) → CopiesInto same hash w caller setting c blocks p t → CopiesSuperseded same hash w caller setting c seen began p u v → ⊥
  source_none p t u v into late = table_none p.source c.first u refl into.0 late.source late.left

  pub copying_none : (p : Copier) (stands : Copying) → CopyingFactsBlocking same hash w caller setting c blocks p stands → SupersededCopying same hash w caller setting c seen began p stands → ⊥
  copying_none p copies.Asks f late = source_none p f.0 late.0 late.1 f.1.0 late.2
  copying_none p copies.Sees f late = source_none p f.0 late.0 late.1 f.1.0 late.2
  copying_none p copies.Claims f late = source_none p f.0 late.0 late.1 f.1.0 late.2
  copying_none p copies.Marks f late = source_none p f.0 late.0 late.1 f.1 late.2.0
  copying_none p (copies.Probes word code table probe) f late = source_none p f.0 late.0 late.1 f.4.copies late.5.copies.0
  copying_none p (copies.Puts word code table probe) f late = source_none p f.0 late.0 late.1 f.4.copies late.5.copies.0
  copying_none p copies.Counts f late = source_none p f.0 late.0 late.1 f.1 late.2.0
  copying_none p copies.Aborts f late = source_none p f.0 late.0 late.1 f.1.0.0 late.2.0
  copying_none p copies.Replaces f late = source_none p f.0 late.0 late.1 f.1.0 late.2.0
  copying_none p (copies.Remakes making) f late = source_none p f.0 late.0 late.1 f.1.0 late.2.0
  copying_none p copies.Promotes f late = source_none p f.0 late.0 late.1 f.1.0 late.2
  copying_none p copies.Announces f late = table_none p.target c.first late.1 refl f.2.1 late.3.1 late.3.2
  copying_none p (copies.Succeeds table) f late = table_none p.target c.first late.1 refl f.1.1 late.2.1 late.2.2
  copying_none p (copies.Retires settle rest) f late = table_none p.target c.first late.1 refl f.1.1 late.2.1 late.2.2
  copying_none p copies.Over f late = table_none p.target c.first late.0 refl f.0 late.1 late.2
  copying_none p (copies.Refused fault) f late = late
  copying_none p copies.Begins f late = late
  copying_none p copies.Follows f late = late
  copying_none p (copies.Covers word) f late = late
  copying_none p (copies.Passes word code table) f late = late
  copying_none p (copies.Grows word code making) f late = late
  copying_none p (copies.Tallies word fault) f late = late
  copying_none p (copies.Unmarks word fault) f late = late
  copying_none p (copies.Unclaims fault) f late = late

  -- the root's link
  root_of : (b : Blocks) → 0 < c.past → root_word hash c b ≡ b.table c.first * 2048
  root_of b some = ap (λ (x : Bool). cond x 0 (b.table c.first * 2048)) (ne_eqb c.past 0 (λ e. omega (arith, e, some)))

  one_root : 0 < c.past → blocks.table c.first * 2048 ≡ seen.table c.first * 2048
  one_root some =
      let a = map.map.shows.root_there in let b = sees.map.shows.root_there in
      let e : root_word hash c blocks ≡ root_word hash c seen = cc (a, b) in sym (root_of blocks some) ∙ e ∙ root_of seen some

  pub making_none : (stands : Making) → MakingFacts w caller setting c blocks (Root setting.root) 0 stands → SupersededFirst w caller setting c seen began stands → ⊥
  making_none (makes.Drops table found) (owned, u, stands, made, known, is, planned) (own, plan, v, left, there, looked, here) =
      let root : u ≡ c.first = subst (λ (x : Bool). cond x (u ≤ c.first) (u ≡ c.first)) blocking stands in
      let some : 0 < c.past = omega (arith, made) in
      let first = (sees.map.rule.common.rooted some) in
      let roots = one_root some in
      let found_is : found ≡ blocks.table c.first * 2048 = is ∙ ap (λ (x : ℕ). blocks.table x * 2048) root in
      let one : v ≡ c.first = sees.map.shows.tables_apart v c.first there first looked (sees.map.shows.linked c.first (omega arith) first) (omega (arith, here, found_is, roots)) in
      none_left v v one refl left
  making_none (makes.Over table) (u, stands, there) (v, late, left) = table_none table u v (subst (λ (x : Bool). cond x (u ≤ c.first) (u ≡ c.first)) blocking stands) there late left
  making_none (makes.Sums before reason sum) f late = late
  making_none (makes.Makes table) f late = late
  making_none (makes.Promotes table) f late = late
  making_none (makes.Links table) f late = late
  making_none (makes.Refused fault) f late = late

module _ {K V Q : Type 0} (same : K → K → Bool) (hash : K → ℕ) (asks : Q → K → Bool) (setting : Setting) (w : World (Node K V)) (caller : ℕ) (c : Chart K)
    (blocks seen : Blocks) (map : IsMapIn same hash setting w c blocks) (sees : IsMapIn same hash setting w c seen) (keys : K → Bool) (change : Change) (began : ℕ) where
  module _ (blocking : is_incremental setting.mode ≡ false) (p : KeyCall K V Q) where
    abbrev none_at : (table : Table) (t u : ℕ) → t ≡ c.first → IsTable c blocks table t → IsTable c seen table u → Left c began u → ⊥
    none_at = table_none same hash setting blocking w caller c blocks seen map sees began

    is_root : (t : ℕ) → ShutUpTo same hash asks w caller setting c blocks keys change t → t ≡ c.first
    is_root t h = subst (λ (x : Bool). cond x ((k : K) → keys k ≡ true → ShutBefore same (spot_of hash) true c (suc t) k) (t ≡ c.first)) blocking h

    trial_none : AtTry same hash asks w caller setting c blocks keys change p → IsSupersededTrial same hash keys p.hash c seen began p.trial → ⊥
    trial_none (t, j, there, none, root) (u, i, late, passed, left) = none_at p.trial.table t u (root blocking) there.table late.table left

    looking_none : (code : ℕ) (stands : Looking) → LookingFacts same hash setting.mode setting.root keys code c blocks stands → SupersededLooking same hash keys code c seen began stands → ⊥
    looking_none code (looks.Probes trial) (t, j, there, none, root) (u, i, late, passed, left) = none_at trial.table t u (root blocking) there.table late.table left
    looking_none code looks.Roots f late = late
    looking_none code (looks.Nexts table) f late = late
    looking_none code (looks.Over found) f late = late

    gap_none : (gap : Gap) → GapFacts same hash asks w caller setting c blocks keys change p gap → SupersededGap same hash asks w caller setting c seen keys began p gap → ⊥
    gap_none gaps.NoTable f late = late
    gap_none gaps.Free f late = trial_none f late
    gap_none gaps.Past (t, (there, shut)) (u, late, left) = none_at p.trial.table t u (is_root t shut) there late left
    gap_none gaps.Last f late = late

    asking_none : (asks_at : Asking) → AskingFacts same hash asks w caller setting c blocks keys change p asks_at → SupersededAsking same hash asks w caller setting c seen keys began p asks_at → ⊥
    asking_none (asking.Absent gap) (own, is, f) (its, here, late) = gap_none gap f late
    asking_none (asking.Present word) (own, is, names, try) (its, here, named, late) = trial_none try late
    asking_none (asking.Fills word) (own, is, told, may, try) (its, here, value, replaces, late) = trial_none try late
    asking_none (asking.GivesUp word) (own, is, some, names, try) (its, here, had, named, late) = trial_none try late

    calling_none : (stands : Calling) → CallingFacts same hash asks w caller setting c blocks keys change p stands → SupersededCalling same hash asks w caller setting c seen keys began p stands → ⊥
    calling_none (at.Looks lookup) (own, missing_is, there_is, q, asked, alike, f) (its, missing, there, q2, asked2, alike2, late) = looking_none p.hash lookup.stands f.point late.point
    calling_none at.Probes (own, try) (its, late) = trial_none try late
    calling_none (at.Tries word new) (own, may, try) (its, late, mays) = trial_none try late
    calling_none at.Nexts (own, t, (there, shut)) (its, u, late, left) = none_at p.trial.table t u (is_root t shut) there late left
    calling_none (at.Firsts making) (own, puts, f) (its, stores, late) =
        making_none same hash setting blocking w caller c blocks seen map sees began making.stands f.point late.point
    calling_none (at.Allocs making) (own, t, (there, shut), f) (its, u, late, left, facts) = none_at p.trial.table t u (is_root t shut) there late left
    calling_none (at.Copies copier) (own, mode, f) (its, late) = copying_none same hash setting blocking w caller c blocks seen map sees began copier copier.stands f.point late.point
    calling_none (at.Asks asks_at) f late = asking_none asks_at f late
    calling_none at.Makes f late = late
    calling_none at.Roots f late = late
    calling_none (at.Helps copier goal) f late = late
    calling_none (at.Counts removed) f late = late
    calling_none (at.Disposes dispose answer) f late = late
    calling_none (at.Drops end) f late = late
    calling_none (at.Over end) f late = late

  pub never_both : (p : KeyCall K V Q) → CallFacts same hash asks w caller setting c blocks keys change p → SupersededCallFacts same hash asks w caller setting c seen keys began p → ⊥
  never_both p facts late = calling_none late.blocking p p.stands facts.point late.point
