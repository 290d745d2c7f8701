-- What was made for maps under way stays counted by the step of a making, too.
use Rattle.std.specs.Prelude.{◌≡◌, ◌≢◌, ◌⊎◌, ◌+◌, ℕ, Bool, true, false, List, [], ◌∷◌, length, filter, Option, Some, None}
use Rattle.std.proofs.Common.{refl, ap, sym, subst, ◌∙◌, arith, inl, inr}
use Rattle.std.proofs.lemmas.Bool.{cases_eq}
use Rattle.seize_acts.specs.Given.SeizeWorld.{with_at}
use Rattle.seize_acts.specs.Given.SeizeDeclared.advance.Advance.{Advance}
use Rattle.seize_acts.specs.Given.SeizeDeclared.advance.Advance.TheVariants as progress
use Rattle.run_legal.specs.Given.TablesDeclared.setting.Setting.{Setting}
use Rattle.threads_rule.specs.Given.ResizeDeclared.new_map.NewMap.{NewMap}
use Rattle.run_legal.specs.Given.EffectsDeclared.changed.Changed.{Changed}
use Rattle.run_schedules.specs.declared.effect.Effect.{Effect}
use Rattle.run_schedules.specs.declared.outcome.Outcome.{Outcome}
use Rattle.run_schedules.specs.Schedules.Effects.{with_effects}
use Rattle.run_schedules.specs.Schedules.Handing.{is_table_made}
use Rattle.run_schedules.specs.Schedules.Moment.{MapThere, Moment}
use Rattle.run_schedules.specs.Schedules.Views.{capacity_or, map_at, tables_of}
use Rattle.run_legal.specs.Given.EffectsEffects.{effects_of}
use Rattle.run_legal.specs.Given.EffectsKnown.{Known}
use Rattle.run_legal.specs.Given.EffectsDeclared.acting.Acting.TheVariants as acts
use Rattle.run_legal.proofs.Given.CallersTogether.At.{at_other, at_same}
use Rattle.run_legal.proofs.Given.FindsCapacities.{effects_keep_capacities}
use Rattle.threads_rule.specs.Given.ActsActs.{Answer}
use Rattle.play_linear.specs.Given.AgreesFresh.{AreNamed, gives_back, is_taken}
use Rattle.play_linear.proofs.Given.AgreesFresh.{not_in_use}
use Rattle.play_linear.proofs.Given.AgreesNumbers.{NumbersHold}
use Rattle.run_schedules.specs.Deeds.Deeds.{Deed, Entry, after, come, moment, named}
use Rattle.run_schedules.specs.Deeds.History.{made_by, made_for}
use Rattle.play_linear.specs.Given.PlayedPlay.{Making, Now, State, has_root, is_refusal, making_outcome, pairs_for}
use Rattle.run_legal.specs.Given.NeedsMakings.{in_hand, table_left}
use Rattle.play_linear.proofs.Linear.Coming.{come_leaves, come_there, gone_leaves}
use Rattle.play_linear.proofs.Linear.MapActs.{deed_by}
use Rattle.play_moves.proofs.EachMoves.Counted.{capacity_still, nothing_made, other_made, own_made}
use Rattle.play_moves.proofs.Moves.MadeHolds.{IsComing, MadeHolds}
use Rattle.play_linear.proofs.Given.AgreesNames.{effects_named}
use Rattle.play_linear.proofs.Given.AgreesOpenings.{gives_its}

module _ {K V S : Type 0} (x : State K V S) (here : MadeHolds x) (numbers : NumbersHold true x) (names : AreNamed (moment x.history)) (i : ℕ) (b : Making S) (makes : x.now.makers i ≡ Some b) (machine : NewMap)
    (said : Advance Setting) (told : Changed) (apart : (j : ℕ) (d : Making S) → j ≢ i → x.now.makers j ≡ Some d → d.map ≢ b.map) where
  abbrev m : Moment K V
  m = moment x.history

  abbrev effects : List Effect
  effects = effects_of (acts.Making b.map) x.known told

  abbrev w : Moment K V
  w = with_effects None (Some b.map) effects m

  abbrev had : Bool
  had = has_root b.machine.stands

  abbrev has : Bool
  has = has_root machine.stands

  abbrev o : Outcome V
  o = making_outcome said

  abbrev step : Deed K V → Entry K V
  step d = record { deed = d; outcome = o; effects = effects; refused = is_refusal told }

  abbrev by_roots : Bool → Bool → Entry K V
  by_roots p q = step (deed_by b.map machine p q)

  abbrev f : MapThere
  f = record { name = named b.map; number = b.map; root = machine.setting.root; mode = machine.setting.mode; capacity = pairs_for machine.len; first = 0 }

  -- another map has the capacity that it had
  beside : (n : ℕ) → b.map ≢ n → (p q : Bool) → capacity_or (map_at n (after (by_roots p q) m)) ≡ capacity_or (map_at n m)
  beside n ne true true = capacity_still n (by_roots true true) m tt
  beside n ne false false = capacity_still n (by_roots false false) m tt
  beside n ne true false =
      ap capacity_or (gone_leaves n b.map ne w (after (by_roots true false) m) (effects_named None (Some b.map) effects m names) refl refl refl).there ∙ effects_keep_capacities K V None (Some b.map) effects m n
  beside n ne false true = effects_keep_capacities K V None (Some b.map) effects (come f m) n ∙ ap capacity_or (come_leaves n b.map ne f m refl).there

  module _ (rootless : had ≡ false → effects ≡ []) (freed : had ≡ true → has ≡ false → effects ≡ []) (failed : had ≡ true → has ≡ false → made_for b.map x.history ≡ 0) where
    own_adds : (p q : Bool) → had ≡ p → has ≡ q → made_by b.map (deed_by {K = K} {V = V} b.map machine p q) effects ≡ length (filter is_table_made effects)
    own_adds true true was is = own_made K V b.map effects
    own_adds false false was is = own_made K V b.map effects
    own_adds true false was is = sym (ap (λ (fs : List Effect). length (filter is_table_made fs)) (freed was is))
    own_adds false true was is = sym (ap (λ (fs : List Effect). length (filter is_table_made fs)) (rootless was))

    other_adds : (n : ℕ) → n ≢ b.map → (p q : Bool) → made_by n (deed_by {K = K} {V = V} b.map machine p q) effects ≡ 0
    other_adds n ne true true = other_made K V n b.map effects ne
    other_adds n ne false false = other_made K V n b.map effects ne
    other_adds n ne true false = refl
    other_adds n ne false true = refl

    abbrev log : List (Entry K V)
    log = by_roots had has ∷ x.history

    fresh_then : (n : ℕ) → is_taken n log ≡ false → made_for n log ≡ 0
    fresh_then n not = by (not_in_use true n (by_roots had has) x.history not).1 (cases_eq n b.map)
      where
        none_by : (q : Bool) → had ≡ q → is_taken n x.history ≡ false → n ≡ b.map → made_by n (deed_by {K = K} {V = V} b.map machine had has) effects ≡ 0
        none_by true rooted was e = absurd (let taken : is_taken n x.history ≡ true = ap (λ (k : ℕ). is_taken k x.history) e ∙ numbers.made i b makes rooted in cc (taken, was))
        none_by false none was e = nothing_made n (deed_by b.map machine had has) effects (rootless none)

        by : (gives_back true n (deed_by {K = K} {V = V} b.map machine had has) ≡ true) ⊎ (is_taken n x.history ≡ false) → (n ≡ b.map) ⊎ (n ≢ b.map) → made_for n log ≡ 0
        by (inl gives) either =
            let its = gives_its K V b.map b.machine machine true n gives in
            let now = nothing_made {K = K} {V = V} n (deed_by b.map machine had has) effects (freed its.2 its.3) in
            let before : made_for n x.history ≡ 0 = subst (λ (k : ℕ). made_for k x.history ≡ 0) its.1 (failed its.2 its.3) in
            omega (arith, now, before)
        by (inr was) (inl e) = let now = none_by had refl was e in let before = here.fresh n was in omega (arith, now, before)
        by (inr was) (inr ne) = let now = other_adds n ne had has in let before = here.fresh n was in omega (arith, now, before)

    beside_then : (j : ℕ) (d : Making S) → j ≢ i → x.now.makers j ≡ Some d → IsComing log d
    beside_then j d ne there =
        let so = here.coming j d there in
        let other = apart j d ne there in (
          (let now = other_adds d.map other had has in let before = so.0 in omega (arith, now, before)),
          λ rooted. beside d.map (λ e. other (sym e)) had has ∙ so.1 rooted,
        )

    pub own_then : length (filter is_table_made effects) + made_for b.map x.history ≡ length (tables_of b.map w) + in_hand (table_left machine progress.Goes) → tables_of b.map w ≡ [] → machine.len ≡ b.machine.len
        → (had ≡ false → map_at b.map m ≡ None) → IsComing log (record b { machine = machine })
    own_then counts bare len_same unknown = (
      (let now = own_adds had has refl refl in let none = ap length bare in omega (arith, now, none, counts)),
      λ rooted. by had has refl rooted,
    )
      where
        by : (p q : Bool) → had ≡ p → q ≡ true → capacity_or (map_at b.map (after (by_roots p q) m)) ≡ pairs_for machine.len
        by true true was is = capacity_still b.map (by_roots true true) m tt ∙ (here.coming i b makes).1 was ∙ ap pairs_for (sym len_same)
        by false true was is = effects_keep_capacities K V None (Some b.map) effects (come f m) b.map ∙ ap capacity_or (come_there f m (unknown was))
        by p false was is = absurd (cc is)

    -- So it is then.
    pub then_made : (now : Now K V S) (known : Known) (answers : List (Answer K V)) (next : Option (Making S)) → now.makers ≡ with_at x.now.makers i next
        → ((d : Making S) → next ≡ Some d → IsComing log d) → MadeHolds (record { now = now; known = known; history = log; told = answers })
    then_made now known answers next makers own = record {
      fresh = fresh_then;
      coming = λ j d it. at_it j d (sym (ap (λ (h : ℕ → Option (Making S)). h j) makers) ∙ it) (cases_eq j i);
    }
      where
        at_it : (j : ℕ) (d : Making S) → with_at x.now.makers i next j ≡ Some d → (j ≡ i) ⊎ (j ≢ i) → IsComing log d
        at_it j d it (inl e) = own d (sym (at_same x.now.makers i next j e) ∙ it)
        at_it j d it (inr ne) = beside_then j d ne (sym (at_other x.now.makers i next j ne) ∙ it)
