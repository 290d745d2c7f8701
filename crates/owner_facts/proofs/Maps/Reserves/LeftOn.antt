-- Each step of a copier of a whole table that is alone, in either mode: which tables it has still to retire then, and that it ends with the root.
use Rattle.std.proofs.Common.{◌≡◌, ℕ, suc, ◌/◌, ◌<◌, ◌≤◌, Bool, true, false, cond, refl, arith, ap, sym, subst, ◌∙◌}
use Rattle.many_maps.specs.Given.SeizeWordsDeclared.at.At.TheVariants.{Word}
use Rattle.many_maps.specs.Given.SeizeWordsMem.{value_at, Took}
use Rattle.many_maps.specs.Given.SeizeWordsPlan.{Steps}
use Rattle.many_maps.proofs.Given.SeizeWordsOneOwner.Operations.{stored, loaded}
use Rattle.many_maps.specs.Given.SeizeWorld.{World}
use Rattle.many_maps.specs.Given.TablesChunks.{is_incremental}
use Rattle.many_maps.specs.Given.ResizeCopier.{plan_at}
use Rattle.many_maps.specs.Given.ResizeCopierPromotes.{to, successor_read, also_retired}
use Rattle.many_maps.specs.Given.ResizeCopierStates.{standing}
use Rattle.many_maps.specs.Given.TablesTablePlaces.{at_word}
use Rattle.many_maps.specs.Given.TablesDeclared.node.Node.{Node}
use Rattle.many_maps.specs.Given.ResizeDeclared.yielding.Yielding.{Yielding}
use Rattle.many_maps.specs.Given.ResizeDeclared.yielding.Yielding.TheVariants as outcome
use Rattle.many_maps.specs.Given.TablesDeclared.setting.Setting.{Setting}
use Rattle.many_maps.specs.Given.TablesDeclared.status.TheConstants.Status.{PROMOTED}
use Rattle.many_maps.specs.Given.TablesDeclared.table.Table.{Table}
use Rattle.many_maps.specs.Given.TablesDeclared.table_words.TheConstants.{NEXT, STATUS}
use Rattle.many_maps.specs.Given.ResizeDeclared.copier.Copier.{Copier}
use Rattle.many_maps.specs.Given.ResizeDeclared.copier.Copying.{Copying}
use Rattle.many_maps.specs.Given.ResizeDeclared.copier.Copying.TheVariants as at
use Rattle.many_maps.specs.Given.RuleChart.{Chart}
use Rattle.many_maps.specs.Given.RuleLasts.{Lasts}
use Rattle.many_maps.specs.Given.RuleWords.{Blocks}
use Rattle.many_maps.specs.Given.RuleMaps.{spot_of, IsTable}
use Rattle.many_maps.specs.Given.RuleInWorld.{SameBlocks, IsMapIn}
use Rattle.many_maps.specs.Given.PointsTold.{IsRowOfCopier}
use Rattle.owner_facts.specs.Maps.AloneReserves.{RetiresFrom, IsNear}
use Rattle.owner_facts.proofs.Maps.Reserves.CopiersOn.{RetiresNone, PromotesNone, Turns, GoesOn, Gives, copier_goes_on}
use Rattle.owner_facts.proofs.Maps.Reserves.PlansLeave.{plan_roots}
use Rattle.owner_facts.proofs.Maps.Reserves.Left.{CopiesTo, copies_plainly, retired_all, first_kept, near_kept, announces_on, succeeds_on, promotes_on}
use Rattle.owner_facts.proofs.Maps.Reserves.RootsUnwritten.{MakesBehind, copier_no_root}

-- what is known of the tables of a copier, in either mode
abbrev pub KnowsTables : {K : Type 0} → Setting → Chart K → Blocks → Copier → Copying → Type 0
KnowsTables setting c blocks p at.Promotes = (s : ℕ) × (u : ℕ) × IsTable c blocks p.source s × IsTable c blocks p.target u × cond (is_incremental setting.mode) (u ≡ suc s) (c.first < u)
KnowsTables setting c blocks p at.Announces = (s : ℕ) × IsTable c blocks p.source s
KnowsTables setting c blocks p stands = MakesBehind stands × (is_incremental setting.mode ≡ true → Turns stands → ⊥)

module _ {K V : Type 0} (same : K → K → Bool) (hash : K → ℕ) (setting : Setting) (w w2 : World (Node K V)) (c c2 : Chart K) (blocks blocks2 : Blocks)
    (map : IsMapIn same hash setting w c blocks) (map2 : IsMapIn same hash setting w2 c2 blocks2) (lasts : Lasts same (spot_of hash) (is_incremental setting.mode) c c2)
    (since : SameBlocks c blocks blocks2) (p : Copier) (setting_is : p.setting ≡ setting) (t : ℕ) (end : Copier × Yielding (Node K V) Table)
    (known : t < c.past → blocks.table_known t ≡ true) (from : RetiresFrom setting c blocks p p.stands t) (near : IsNear setting c p) where
  -- where it ends with a table, that is the root, in blocking mode, or was, in incremental mode
  abbrev pub EndsWith : Type 0
  EndsWith = (table : Table) → end.1 ≡ outcome.Done table → cond (is_incremental setting.mode) (table.turn ≤ c2.first) (table.turn ≡ c2.first)

  plainly : EndsWith → (stands : Copying) → p.stands ≡ stands → PromotesNone stands → RetiresNone stands → MakesBehind stands → (is_incremental setting.mode ≡ true → Turns stands → ⊥)
      → Steps Took value_at w.memory (plan_at hash p stands) w2.memory end → CopiesTo setting c2 blocks2 t end
  plainly ends stands here none quiet behind turns steps =
      copies_plainly setting c2 blocks2 t end (on (λ table. Unit {0}) tt (λ turns table. tt)).0.0
      (retired_all setting c blocks t p stands quiet (subst (λ (x : Copying). RetiresFrom setting c blocks p x t) here from) ∙ sym first)
      near2 (λ table done. root (is_incremental setting.mode) refl table done (ends table done) near2)
    where
      on : (Fits : Table → Type 0) → Fits p.target → (Turns stands → (table : Table) → Fits table) → GoesOn Fits end.0 × Gives Fits end.1
      on Fits fits any = copier_goes_on Fits V hash p (subst RetiresNone (sym here) quiet) fits stands none any w.memory w2.memory end steps

      first : c2.first ≡ c.first
      first = first_kept same hash setting w w2 c c2 blocks blocks2 map map2 lasts since p setting_is t end
          (plan_roots w.memory w2.memory end (plan_at hash p stands) (copier_no_root K V hash p stands none behind) steps)

      kept : is_incremental setting.mode ≡ true → GoesOn (λ (x : Table). x ≡ p.target) end.0 × Gives (λ (x : Table). x ≡ p.target) end.1
      kept bits = on (λ (x : Table). x ≡ p.target) refl (λ turning. absurd (turns bits turning))

      near2 : IsNear setting c2 end.0
      near2 = near_kept same hash setting w w2 c c2 blocks blocks2 map map2 lasts since p setting_is t end first end.0 (λ bits. (kept bits).0.1) near

      root : (b : Bool) → is_incremental setting.mode ≡ b → (table : Table) → end.1 ≡ outcome.Done table → cond b (table.turn ≤ c2.first) (table.turn ≡ c2.first) → cond b (c2.first ≤ end.0.target.turn) (Unit {0})
          → table.turn ≡ c2.first
      root true bits table done low high =
          let k = kept bits in
          let same_table : table ≡ p.target = subst (λ (o : Yielding (Node K V) Table). Gives (λ (x : Table). x ≡ p.target) o) done k.1 in
          let e = ap (λ (x : Table). x.turn) (same_table ∙ sym k.0.1) in
          omega (arith, low, high, e)
      root false bits table done is high = is

  pub copies_on_at : EndsWith → (stands : Copying) → p.stands ≡ stands → (IsRowOfCopier stands → ⊥) → KnowsTables setting c blocks p stands
      → Steps Took value_at w.memory (plan_at hash p stands) w2.memory end → CopiesTo setting c2 blocks2 t end
  copies_on_at ends at.Begins here none k s = plainly ends at.Begins here tt tt k.0 k.1 s
  copies_on_at ends at.Follows here none k s = plainly ends at.Follows here tt tt k.0 k.1 s
  copies_on_at ends at.Asks here none k s = plainly ends at.Asks here tt tt k.0 k.1 s
  copies_on_at ends at.Sees here none k s = plainly ends at.Sees here tt tt k.0 k.1 s
  copies_on_at ends at.Claims here none k s = plainly ends at.Claims here tt tt k.0 k.1 s
  copies_on_at ends at.Marks here none k s = plainly ends at.Marks here tt tt k.0 k.1 s
  copies_on_at ends (at.Probes word code table probe) here none k s = plainly ends (at.Probes word code table probe) here tt tt k.0 k.1 s
  copies_on_at ends (at.Puts word code table probe) here none k s = plainly ends (at.Puts word code table probe) here tt tt k.0 k.1 s
  copies_on_at ends (at.Covers word) here none k s = plainly ends (at.Covers word) here tt tt k.0 k.1 s
  copies_on_at ends (at.Passes word code table) here none k s = plainly ends (at.Passes word code table) here tt tt k.0 k.1 s
  copies_on_at ends (at.Grows word code making) here none k s = plainly ends (at.Grows word code making) here tt tt k.0 k.1 s
  copies_on_at ends at.Aborts here none k s = plainly ends at.Aborts here tt tt k.0 k.1 s
  copies_on_at ends at.Replaces here none k s = plainly ends at.Replaces here tt tt k.0 k.1 s
  copies_on_at ends (at.Remakes making) here none k s = plainly ends (at.Remakes making) here tt tt k.0 k.1 s
  copies_on_at ends at.Counts here none k s = plainly ends at.Counts here tt tt k.0 k.1 s
  copies_on_at ends (at.Tallies word fault) here none k s = plainly ends (at.Tallies word fault) here tt tt k.0 k.1 s
  copies_on_at ends (at.Unmarks word fault) here none k s = plainly ends (at.Unmarks word fault) here tt tt k.0 k.1 s
  copies_on_at ends (at.Unclaims fault) here none k s = plainly ends (at.Unclaims fault) here tt tt k.0 k.1 s
  copies_on_at ends at.Promotes here none k s =
      promotes_on same hash setting w w2 c c2 blocks blocks2 map map2 lasts since p setting_is t end known from near here k.0 k.1 k.2 k.3 k.4 s
  copies_on_at ends at.Announces here none k s =
      let d = stored w.memory (λ out. to (standing p (at.Succeeds p.source.link))) (at_word p.target STATUS) PROMOTED w2.memory end s in
      announces_on same hash setting w w2 c c2 blocks blocks2 map map2 lasts since p setting_is t end known from near here k.0 k.1
      (plan_roots w.memory w2.memory end (plan_at hash p at.Announces) tt s) d.1
  copies_on_at ends (at.Succeeds table) here none k s =
      let d = loaded w.memory (successor_read p table) (Word (table / 2048) NEXT) w2.memory end s in
      succeeds_on same hash setting w w2 c c2 blocks blocks2 map map2 lasts since p setting_is t end known from near table (also_retired p d.0) here
      (plan_roots w.memory w2.memory end (plan_at hash p (at.Succeeds table)) tt s) d.3
  copies_on_at ends (at.Retires settle rest) here none k s = absurd (none tt)
  copies_on_at ends at.Over here none k s = plainly ends at.Over here tt tt k.0 k.1 s
  copies_on_at ends (at.Refused fault) here none k s = plainly ends (at.Refused fault) here tt tt k.0 k.1 s
