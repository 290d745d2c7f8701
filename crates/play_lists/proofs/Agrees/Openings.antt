-- Before the making of a map has its root its steps have no effect; and a making that has it gives it up as it is refused alone.
use Rattle.std.specs.Prelude.{◌≢◌, ◌==◌, ◌&&◌, ◌-◌, nat_lt, Ok, Err, Some, if◌then◌else◌}
use Rattle.std.proofs.Common.{◌≡◌, ℕ, ◌+◌, Bool, true, false, [], refl, ap, sym, subst, ◌∙◌}
use Rattle.std.proofs.lemmas.Bool.{and_parts, eq-eqb, eqb-true, ne_eqb}
use Rattle.run_schedules.specs.Given.SeizeWordsMem.{Mem, value_at}
use Rattle.run_schedules.specs.Given.SeizeWordsOp.{Out, Exchange, Exchanged, Made}
use Rattle.run_schedules.specs.Given.SeizeWordsPlan.{Ends as EndsSo}
use Rattle.run_schedules.specs.Given.SeizeWordsDeclared.at.At.TheVariants.{Used}
use Rattle.run_schedules.specs.Given.SeizeWordsDeclared.fault.Fault.TheVariants.{RootsUsedUp}
use Rattle.seize.specs.declared.advance.Advance.{Advance}
use Rattle.seize.specs.declared.advance.Advance.TheVariants as progress
use Rattle.seize.specs.declared.rows.settle.Settled.{Settled}
use Rattle.map_tables.specs.declared.node.Node.{Node}
use Rattle.map_tables.specs.declared.setting.Setting.{Setting}
use Rattle.map_tables.specs.declared.table.Table.{Table}
use Rattle.run_kept.specs.Given.ResizeNewMap.{at_root, done, goes, made, opened, plan_at, refused, taken}
use Rattle.run_finds.specs.Given.ResizeNewTable.{first_table, new_table_plan}
use Rattle.run_finds.specs.Given.ResizeDeclared.new_map.NewMap.{NewMap}
use Rattle.run_finds.specs.Given.ResizeDeclared.new_map.Opening.{Opening}
use Rattle.run_finds.specs.Given.ResizeDeclared.new_map.Opening.TheVariants as openings
use Rattle.run_finds.specs.Given.ResizeDeclared.new_table.NewTable.{NewTable}
use Rattle.run_finds.specs.Given.TellsSeen.{seen_of}
use Rattle.run_finds.specs.Given.TellerTells.{StepsObserved, observed_of}
use Rattle.run_kept.specs.Given.EffectsDeclared.changed.Changed.{Changed}
use Rattle.run_kept.specs.Given.EffectsDeclared.changed.Changed.TheVariants as changed
use Rattle.run_schedules.specs.Schedules.Moment.{Moment}
use Rattle.run_kept.specs.Given.EffectsEffects.{effects_of}
use Rattle.run_kept.specs.Given.EffectsKnown.{Known}
use Rattle.run_kept.specs.Given.EffectsDeclared.acting.Acting.{Acting}
use Rattle.many_acts.proofs.Given.OthersOutcomes.{told_in}
use Rattle.run_schedules.specs.Deeds.Deeds.{Deed, MapComes, Makes, MapFails, Ends, MapGoes, acted_on}
use Rattle.play_lists.specs.Played.Play.{Ending, ending_deed, has_root, is_over, making_deed, pairs_for}
use Rattle.play_lists.specs.Agrees.Fresh.{comes_with, gives_back}
use Rattle.play_lists.proofs.Agrees.Fresh.{BeginsElsewhere}

-- it has no effect
abbrev IsQuiet : Changed → Type 0
IsQuiet told = (who : Acting) (known : Known) → effects_of who known told ≡ []

-- a root is given up by a refusal
abbrev pub IsRefused : Advance Setting → Type 0
IsRefused (progress.Refused fault) = Unit {0}
IsRefused told = ⊥

module _ {K V : Type 0} (c : NewMap) (m n : Mem (Node K V)) (told : Changed) (end : NewMap × Advance Setting) where
  abbrev Steps : Opening → Type 0
  Steps stands = StepsObserved K V (NewMap × Advance Setting) m changed.Nothing (plan_at c stands) n told end

  exchange_quiet : (out : Out (Node K V)) → IsQuiet (observed_of (Exchange (Used c.setting.root) 0 1) out (seen_of m (Exchange (Used c.setting.root) 0 1) out))
  exchange_quiet (Exchanged (Ok word)) who known = refl
  exchange_quiet _ who known = refl

  pub rootless_quiet : (stands : Opening) → has_root stands ≡ false → Steps stands → IsQuiet told
  rootless_quiet openings.Takes none steps = subst IsQuiet (sym steps.1.1) (exchange_quiet steps.0)
  rootless_quiet (openings.Refused fault) none steps = subst IsQuiet (sym steps.2) (λ who known. refl)
  rootless_quiet openings.Shards none steps = absurd (cc none)
  rootless_quiet (openings.Tables making) none steps = absurd (cc none)
  rootless_quiet (openings.Unmakes fault) none steps = absurd (cc none)
  rootless_quiet (openings.Frees fault) none steps = absurd (cc none)
  rootless_quiet openings.Over none steps = absurd (cc none)

  -- it is not over before
  not_done : (out : Out (Node K V)) (setting : Setting) → EndsSo (value_at n) (taken c out) end → end.1 ≡ progress.Done setting → ⊥
  not_done (Exchanged (Ok free)) setting ends done = cc (ap (λ (z : NewMap × Advance Setting). z.1) ends, done)
  not_done (Exchanged (Err used)) setting ends done = by (nat_lt c.setting.root (c.roots - 1)) (sym (ap (λ (z : NewMap × Advance Setting). z.1) ends) ∙ done)
    where
      next : Bool → NewMap × Advance Setting
      next q = if q then (record c { setting = at_root c.setting (c.setting.root + 1) }, progress.Goes) else refused c RootsUsedUp

      by : (q : Bool) → (next q).1 ≡ progress.Done setting → ⊥
      by true e = cc e
      by false e = cc e
  not_done _ setting ends done = cc (ap (λ (z : NewMap × Advance Setting). z.1) ends, done)

  pub done_rooted : (stands : Opening) (setting : Setting) → Steps stands → end.1 ≡ progress.Done setting → has_root stands ≡ true
  done_rooted openings.Takes setting steps done = absurd (not_done steps.0 setting steps.2 done)
  done_rooted (openings.Refused fault) setting steps done = absurd (cc (ap (λ (z : NewMap × Advance Setting). z.1) steps.1, done))
  done_rooted openings.Shards setting steps done = refl
  done_rooted (openings.Tables making) setting steps done = refl
  done_rooted (openings.Unmakes fault) setting steps done = refl
  done_rooted (openings.Frees fault) setting steps done = refl
  done_rooted openings.Over setting steps done = refl

-- It has its root still, or is refused.
abbrev pub KeepsRoot : NewMap × Advance Setting → Type 0
KeepsRoot end = has_root end.0.stands ≡ false → IsRefused end.1

opened_keeps : (c : NewMap) (x : NewTable × Advance Table) → KeepsRoot (opened c x)
opened_keeps c (making, progress.Goes) none = absurd (cc none)
opened_keeps c (making, progress.Waits) none = absurd (cc none)
opened_keeps c (making, progress.Done table) none = absurd (cc none)
opened_keeps c (making, progress.Refused fault) none = absurd (cc none)

module _ {K V : Type 0} (c : NewMap) (m n : Mem (Node K V)) (told : Changed) (end : NewMap × Advance Setting) where
  by_end : (e : NewMap × Advance Setting) → end ≡ e → KeepsRoot e → KeepsRoot end
  by_end e is keeps = subst KeepsRoot (sym is) keeps

  sharded : (d : NewMap) → (q : Bool) → KeepsRoot (if q then done d else goes d (openings.Tables (first_table d.setting d.len)))
  sharded d true none = absurd (cc none)
  sharded d false none = absurd (cc none)

  made_keeps : (out : Out (Node K V)) → c.stands ≡ openings.Shards → EndsSo (value_at n) (made c out) end → KeepsRoot end
  made_keeps (Made (Ok block)) is ends = by_end _ ends (sharded (record c { setting = record c.setting { counter = block } }) (c.len == 0))
  made_keeps (Made (Err value)) is ends = by_end _ ends (λ none. absurd (cc none))
  made_keeps _ is ends = by_end _ ends (λ none. absurd (cc (ap has_root is, none)))

  pub root_kept : (stands : Opening) → c.stands ≡ stands → has_root stands ≡ true → Steps {K = K} {V = V} c m n told end stands → KeepsRoot end
  root_kept openings.Takes is has steps = absurd (cc has)
  root_kept (openings.Refused fault) is has steps = absurd (cc has)
  root_kept openings.Shards is has steps = made_keeps steps.0 is steps.2
  root_kept (openings.Tables making) is has steps = let x = told_in m n told (opened c) (new_table_plan making) end steps in by_end (opened c x.0) x.1 (opened_keeps c x.0)
  root_kept (openings.Unmakes fault) is has steps = by_end _ steps.2 (λ none. absurd (cc none))
  root_kept (openings.Frees fault) is has steps = by_end _ steps.2 (λ none. tt)
  root_kept openings.Over is has steps = by_end _ steps.1 (λ none. absurd (cc (ap has_root is, none)))

-- What is done as a map is made.
module _ (K V : Type 0) (map : ℕ) (before next : NewMap) where
  abbrev deed_by : Bool → Bool → Deed K V
  deed_by b c =
      if b then (if c then Makes map else MapFails map) else (if c then MapComes map next.setting.root next.setting.mode (pairs_for next.len) else Makes map)

  pub making_acts : (m : Moment K V) → acted_on (making_deed {K = K} {V = V} map before next) m ≡ Some map
  making_acts m = by (has_root before.stands) (has_root next.stands)
    where
      by : (b c : Bool) → acted_on (deed_by b c) m ≡ Some map
      by true true = refl
      by true false = refl
      by false true = refl
      by false false = refl

  pub making_begins_none : (n : ℕ) → BeginsElsewhere n (making_deed {K = K} {V = V} map before next)
  making_begins_none n = by (has_root before.stands) (has_root next.stands)
    where
      by : (b c : Bool) → BeginsElsewhere n (deed_by b c)
      by true true = tt
      by true false = tt
      by false true = tt
      by false false = tt

  -- as it takes its root its map comes
  pub comes_then : has_root before.stands ≡ false → has_root next.stands ≡ true → comes_with map (making_deed {K = K} {V = V} map before next) ≡ true
  comes_then none has = ap (λ (b : Bool). comes_with map (deed_by b (has_root next.stands))) none ∙ ap (λ (c : Bool). comes_with map (deed_by false c)) has ∙ eq-eqb map map refl

  -- and only then, and no other map
  pub none_comes : has_root next.stands ≡ false → (n : ℕ) → comes_with n (making_deed {K = K} {V = V} map before next) ≡ false
  none_comes none n = ap (λ (c : Bool). comes_with n (deed_by (has_root before.stands) c)) none ∙ by (has_root before.stands)
    where
      by : (b : Bool) → comes_with n (deed_by b false) ≡ false
      by true = refl
      by false = refl

  pub no_other_comes : (n : ℕ) → (map == n) ≡ false → comes_with n (making_deed {K = K} {V = V} map before next) ≡ false
  no_other_comes n other = by (has_root before.stands) (has_root next.stands)
    where
      by : (b c : Bool) → comes_with n (deed_by b c) ≡ false
      by true true = refl
      by true false = refl
      by false true = other
      by false false = refl

  -- it gives its number back alone, and that where its making has a root no more
  module _ (again : Bool) (n : ℕ) where
    pub keeps_number : has_root next.stands ≡ true → gives_back again n (making_deed {K = K} {V = V} map before next) ≡ false
    keeps_number has = ap (λ (c : Bool). gives_back again n (deed_by (has_root before.stands) c)) has ∙ by (has_root before.stands)
      where
        by : (b : Bool) → gives_back again n (deed_by b true) ≡ false
        by true = refl
        by false = refl

    pub keeps_other : (again ≡ true → map ≢ n) → gives_back again n (making_deed {K = K} {V = V} map before next) ≡ false
    keeps_other other = by (has_root before.stands) (has_root next.stands)
      where
        its : (q : Bool) → again ≡ q → (again && (map == n)) ≡ false
        its true e = ap (λ (q : Bool). again && q) (ne_eqb map n (other e)) ∙ ap (λ (q : Bool). q && false) e
        its false e = ap (λ (q : Bool). q && (map == n)) e

        by : (b c : Bool) → gives_back again n (deed_by b c) ≡ false
        by true true = refl
        by true false = its again refl
        by false true = refl
        by false false = refl

    -- what gives a number back is the refusal of the making with it
    pub gives_its : gives_back again n (making_deed {K = K} {V = V} map before next) ≡ true
        → (again ≡ true) × (map ≡ n) × (has_root before.stands ≡ true) × (has_root next.stands ≡ false) × (making_deed {K = K} {V = V} map before next ≡ MapFails map)
    gives_its gives = by (has_root before.stands) refl (has_root next.stands) refl gives
      where
        by : (b : Bool) → has_root before.stands ≡ b → (c : Bool) → has_root next.stands ≡ c → gives_back again n (deed_by b c) ≡ true
            → (again ≡ true) × (map ≡ n) × (has_root before.stands ≡ true) × (has_root next.stands ≡ false) × (making_deed {K = K} {V = V} map before next ≡ MapFails map)
        by true had false none its =
            let both = and_parts again (map == n) its in
            (both.0, eqb-true map n both.1, had, none, ap (λ (b : Bool). deed_by b (has_root next.stands)) had ∙ ap (λ (c : Bool). deed_by true c) none)
        by true had true has its = absurd (cc its)
        by false had true has its = absurd (cc its)
        by false had false none its = absurd (cc its)

-- and what is as one ends
module _ (K V : Type 0) {T : Type 0} (f : Ending) (said : Settled T) where
  pub ending_acts : (m : Moment K V) → acted_on (ending_deed {K = K} {V = V} f said) m ≡ Some f.map
  ending_acts m = by (is_over said)
    where
      by : (q : Bool) → acted_on {K = K} {V = V} (if q then MapGoes f.map else Ends f.map) m ≡ Some f.map
      by true = refl
      by false = refl

  pub ending_begins_none : (n : ℕ) → BeginsElsewhere n (ending_deed {K = K} {V = V} f said)
  ending_begins_none n = by (is_over said)
    where
      by : (q : Bool) → BeginsElsewhere {K = K} {V = V} n (if q then MapGoes f.map else Ends f.map)
      by true = tt
      by false = tt

  pub ending_comes_none : (n : ℕ) → comes_with n (ending_deed {K = K} {V = V} f said) ≡ false
  ending_comes_none n = by (is_over said)
    where
      by : (q : Bool) → comes_with {K = K} {V = V} n (if q then MapGoes f.map else Ends f.map) ≡ false
      by true = refl
      by false = refl

  pub ending_keeps_numbers : (again : Bool) (n : ℕ) → gives_back again n (ending_deed {K = K} {V = V} f said) ≡ false
  ending_keeps_numbers again n = by (is_over said)
    where
      by : (q : Bool) → gives_back {K = K} {V = V} again n (if q then MapGoes f.map else Ends f.map) ≡ false
      by true = refl
      by false = refl
