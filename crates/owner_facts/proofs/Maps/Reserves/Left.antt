-- Which tables a copier of a whole table that is alone has still to retire, and that it ends with the root: after each of its own steps.
use Rattle.std.specs.Prelude.{slice_get}
use Rattle.std.proofs.Common.{◌≡◌, ℕ, suc, ◌*◌, ◌<◌, ◌≤◌, Bool, true, false, cond, Some, IsSome, inl, inr, refl, arith, ap, sym, subst, ◌∙◌}
use Rattle.std.proofs.lemmas.Bool.{eq-eqb}
use Rattle.many_maps.specs.Given.SeizeWordsDeclared.at.At.TheVariants.{Root}
use Rattle.many_maps.specs.Given.SeizeWordsMem.{Mem, value_at, word_at, with_word, Took}
use Rattle.many_maps.specs.Given.SeizeWordsPlan.{Steps}
use Rattle.many_maps.proofs.Given.SeizeWordsOneOwner.AfterWrites.{word_at-with_word}
use Rattle.many_maps.proofs.Given.SeizeWordsOneOwner.Operations.{exchanged}
use Rattle.many_maps.specs.Given.SeizeWorld.{World}
use Rattle.many_maps.specs.Given.SeizeSettle.{retiring}
use Rattle.many_maps.specs.Given.TablesChunks.{is_incremental}
use Rattle.many_maps.specs.Given.ResizeCopier.{plan_at}
use Rattle.many_maps.specs.Given.ResizeCopierStates.{standing}
use Rattle.many_maps.specs.Given.ResizeCopierPromotes.{promoted, retiring_table}
use Rattle.many_maps.specs.Given.TablesDeclared.node.Node.{Node}
use Rattle.many_maps.specs.Given.ResizeDeclared.yielding.Yielding.{Yielding}
use Rattle.many_maps.specs.Given.ResizeDeclared.yielding.Yielding.TheVariants as outcome
use Rattle.many_maps.specs.Given.TablesDeclared.setting.Setting.{Setting}
use Rattle.many_maps.specs.Given.TablesDeclared.table.Table.{Table}
use Rattle.many_maps.specs.Given.ResizeDeclared.copier.Copier.{Copier}
use Rattle.many_maps.specs.Given.ResizeDeclared.copier.Copying.{Copying}
use Rattle.many_maps.specs.Given.ResizeDeclared.copier.Copying.TheVariants as at
use Rattle.many_maps.specs.Given.RuleChart.{Chart}
use Rattle.many_maps.specs.Given.RuleLasts.{Lasts}
use Rattle.many_maps.specs.Given.RuleWords.{Blocks}
use Rattle.many_maps.specs.Given.RuleMaps.{spot_of, IsTable}
use Rattle.many_maps.specs.Given.RuleInWorld.{SameBlocks, IsMapIn}
use Rattle.owner_facts.specs.Maps.AloneReserves.{AreLeft, RetiresFrom, IsNear}
use Rattle.owner_facts.proofs.Maps.Reserves.CopiersOn.{RetiresNone, on_behind}
use Rattle.owner_facts.proofs.Alone.Handed.RootTurns.{before_made}
use Rattle.owner_facts.proofs.Maps.Reserves.RootSame.{root_named, root_becomes, root_same}

module _ {K : Type 0} (setting : Setting) (c : Chart K) (blocks : Blocks) (t : ℕ) where
  -- none is to be retired
  pub all_retired : (p : Copier) (stands : Copying) → RetiresNone stands → t ≡ c.first → RetiresFrom setting c blocks p stands t
  all_retired p at.Begins none is = is
  all_retired p at.Follows none is = is
  all_retired p at.Asks none is = is
  all_retired p at.Sees none is = is
  all_retired p at.Claims none is = is
  all_retired p at.Marks none is = is
  all_retired p (at.Probes word code table probe) none is = is
  all_retired p (at.Puts word code table probe) none is = is
  all_retired p (at.Covers word) none is = is
  all_retired p (at.Passes word code table) none is = is
  all_retired p (at.Grows word code making) none is = is
  all_retired p at.Aborts none is = is
  all_retired p at.Replaces none is = is
  all_retired p (at.Remakes making) none is = is
  all_retired p at.Counts none is = is
  all_retired p (at.Tallies word fault) none is = is
  all_retired p (at.Unmarks word fault) none is = is
  all_retired p (at.Unclaims fault) none is = is
  all_retired p at.Promotes none is = is
  all_retired p at.Announces none is = absurd none
  all_retired p (at.Succeeds table) none is = absurd none
  all_retired p (at.Retires settle rest) none is = absurd none
  all_retired p at.Over none is = is
  all_retired p (at.Refused fault) none is = is

  pub retired_all : (p : Copier) (stands : Copying) → RetiresNone stands → RetiresFrom setting c blocks p stands t → t ≡ c.first
  retired_all p at.Begins none is = is
  retired_all p at.Follows none is = is
  retired_all p at.Asks none is = is
  retired_all p at.Sees none is = is
  retired_all p at.Claims none is = is
  retired_all p at.Marks none is = is
  retired_all p (at.Probes word code table probe) none is = is
  retired_all p (at.Puts word code table probe) none is = is
  retired_all p (at.Covers word) none is = is
  retired_all p (at.Passes word code table) none is = is
  retired_all p (at.Grows word code making) none is = is
  retired_all p at.Aborts none is = is
  retired_all p at.Replaces none is = is
  retired_all p (at.Remakes making) none is = is
  retired_all p at.Counts none is = is
  retired_all p (at.Tallies word fault) none is = is
  retired_all p (at.Unmarks word fault) none is = is
  retired_all p (at.Unclaims fault) none is = is
  retired_all p at.Promotes none is = is
  retired_all p at.Announces none is = absurd none
  retired_all p (at.Succeeds table) none is = absurd none
  retired_all p (at.Retires settle rest) none is = absurd none
  retired_all p at.Over none is = is
  retired_all p (at.Refused fault) none is = is

  -- where a step of it leads
  abbrev pub CopiesTo : {V : Type 0} → Copier × Yielding (Node K V) Table → Type 0
  CopiesTo (q, outcome.Goes) = RetiresFrom setting c blocks q q.stands t × IsNear setting c q
  CopiesTo (q, outcome.Waits) = RetiresFrom setting c blocks q q.stands t × IsNear setting c q
  CopiesTo (q, outcome.Gave value) = Unit {0}
  CopiesTo (q, outcome.Done table) = (table.turn ≡ c.first) × (t ≡ c.first)
  CopiesTo (q, outcome.Refused fault) = t ≡ c.first

  pub copies_plainly : {V : Type 0} (end : Copier × Yielding (Node K V) Table) → RetiresNone end.0.stands → t ≡ c.first → IsNear setting c end.0
      → ((table : Table) → end.1 ≡ outcome.Done table → table.turn ≡ c.first) → CopiesTo end
  copies_plainly (q, outcome.Goes) none is near root = (all_retired q q.stands none is, near)
  copies_plainly (q, outcome.Waits) none is near root = (all_retired q q.stands none is, near)
  copies_plainly (q, outcome.Gave value) none is near root = tt
  copies_plainly (q, outcome.Done table) none is near root = (root table refl, is)
  copies_plainly (q, outcome.Refused fault) none is near root = is

module _ {K V : Type 0} (same : K → K → Bool) (hash : K → ℕ) (setting : Setting) (w w2 : World (Node K V)) (c c2 : Chart K) (blocks blocks2 : Blocks)
    (map : IsMapIn same hash setting w c blocks) (map2 : IsMapIn same hash setting w2 c2 blocks2) (lasts : Lasts same (spot_of hash) (is_incremental setting.mode) c c2)
    (since : SameBlocks c blocks blocks2) (p : Copier) (setting_is : p.setting ≡ setting) (t : ℕ) (end : Copier × Yielding (Node K V) Table) where
  pub first_kept : w2.memory.roots ≡ w.memory.roots → c2.first ≡ c.first
  first_kept e = root_same same hash setting w w2 c c2 blocks blocks2 map map2 lasts since (ap (λ (r : _). slice_get r setting.root) e)

  left_kept : c2.first ≡ c.first → AreLeft setting c t → AreLeft setting c2 t
  left_kept is = by (is_incremental setting.mode)
    where
      by : (b : Bool) → cond b (suc t ≡ c.first) (t < c.first) → cond b (suc t ≡ c2.first) (t < c2.first)
      by true e = e ∙ sym is
      by false l = omega (arith, l, is)

  left_made : AreLeft setting c t → t < c.past
  left_made left = before_made same (spot_of hash) (is_incremental setting.mode) c map.map.rule t (by (is_incremental setting.mode) left)
    where
      by : (b : Bool) → cond b (suc t ≡ c.first) (t < c.first) → t < c.first
      by true e = omega (arith, e)
      by false l = l

  pub near_kept : c2.first ≡ c.first → (q : Copier) → (is_incremental setting.mode ≡ true → q.target ≡ p.target) → IsNear setting c p → IsNear setting c2 q
  near_kept is q target near = by (is_incremental setting.mode) refl near
    where
      by : (b : Bool) → is_incremental setting.mode ≡ b → cond b (c.first ≤ p.target.turn) (Unit {0}) → cond b (c2.first ≤ q.target.turn) (Unit {0})
      by true mode l = let turn = ap (λ (x : Table). x.turn) (target mode) in omega (arith, l, is, turn)
      by false mode l = tt

  module _ (known : t < c.past → blocks.table_known t ≡ true) (from : RetiresFrom setting c blocks p p.stands t) (near : IsNear setting c p) where
    -- says that the target is the root
    pub announces_on : p.stands ≡ at.Announces → (s : ℕ) → IsTable c blocks p.source s → w2.memory.roots ≡ w.memory.roots → end ≡ (standing p (at.Succeeds p.source.link), outcome.Goes)
        → CopiesTo setting c2 blocks2 t end
    announces_on here s source roots is =
        subst (CopiesTo setting c2 blocks2 t) (sym is)
        ((link_is, left_kept first from_here.1), near_kept first (standing p (at.Succeeds p.source.link)) (λ bits. refl) near)
      where
        from_here : RetiresFrom setting c blocks p at.Announces t
        from_here = subst (λ (x : Copying). RetiresFrom setting c blocks p x t) here from

        first : c2.first ≡ c.first
        first = first_kept roots

        turn : s ≡ t
        turn = sym (ap (λ (x : Table). x.turn) source.is) ∙ from_here.0

        link_is : p.source.link ≡ blocks2.table t * 2048
        link_is =
            ap (λ (x : Table). x.link) source.is ∙ ap (λ (u : ℕ). blocks.table u * 2048) turn
            ∙ ap (λ (b : ℕ). b * 2048) (sym (since.tables t (left_made from_here.1) (known (left_made from_here.1))).0)

    -- a table is to be retired now
    pub succeeds_on : (table rest : ℕ) → p.stands ≡ at.Succeeds table → w2.memory.roots ≡ w.memory.roots → end ≡ (retiring_table p table rest, outcome.Goes) → CopiesTo setting c2 blocks2 t end
    succeeds_on table rest here roots is =
        subst (CopiesTo setting c2 blocks2 t) (sym is)
        ((settle_is, left_kept first from_here.1), near_kept first (retiring_table p table rest) (λ bits. refl) near)
      where
        from_here : RetiresFrom setting c blocks p (at.Succeeds table) t
        from_here = subst (λ (x : Copying). RetiresFrom setting c blocks p x t) here from

        first : c2.first ≡ c.first
        first = first_kept roots

        link_is : table ≡ blocks2.table t * 2048
        link_is = from_here.0 ∙ ap (λ (b : ℕ). b * 2048) (sym (since.tables t (left_made from_here.1) (known (left_made from_here.1))).0)

        settle_is : retiring p.setting.slot p.setting.batch_size table ≡ retiring setting.slot setting.batch_size (blocks2.table t * 2048)
        settle_is = ap (λ (x : Setting). retiring x.slot x.batch_size table) setting_is ∙ ap (retiring setting.slot setting.batch_size) link_is

    -- the target becomes the root, unless another caller was faster
    pub promotes_on : p.stands ≡ at.Promotes → (s u : ℕ) → IsTable c blocks p.source s → IsTable c blocks p.target u → cond (is_incremental setting.mode) (u ≡ suc s) (c.first < u)
        → Steps Took value_at w.memory (plan_at hash p at.Promotes) w2.memory end → CopiesTo setting c2 blocks2 t end
    promotes_on here s u source target order steps =
        elim (exchanged w.memory (promoted p) (Root p.setting.root) p.source.link p.target.link w2.memory end steps) as (λ _. CopiesTo setting c2 blocks2 t end) [
          | inl d ↦ first_done d.0 d.1.0 d.1.1 d.2 d.3
          | inr d ↦ (let first = first_kept (ap (λ (x : Mem (Node K V)). x.roots) d.2) in
              copies_plainly setting c2 blocks2 t end
              (subst (λ (x : Copier × Yielding (Node K V) Table). RetiresNone x.0.stands) (sym d.3) (on_behind (λ (x : Table). x ≡ p.target) p refl).0)
              (from_here ∙ sym first)
              (near_kept first end.0 (λ bits. subst (λ (x : Copier × Yielding (Node K V) Table). x.0.target ≡ p.target) (sym d.3) (on_behind (λ (x : Table). x ≡ p.target) p refl).1) near)
              (λ table done. absurd (let goes = ap (λ (x : Copier × Yielding (Node K V) Table). x.1) d.3 in cc (goes, done))))
        ]
      where
        from_here : t ≡ c.first
        from_here = subst (λ (x : Copying). RetiresFrom setting c blocks p x t) here from

        first_done : (found : ℕ) → word_at w.memory (Root p.setting.root) ≡ Some found → found ≡ p.source.link → w2.memory ≡ with_word w.memory (Root p.setting.root) p.target.link
            → end ≡ (standing p at.Announces, outcome.Goes) → CopiesTo setting c2 blocks2 t end
        first_done found read same_link written is =
            subst (CopiesTo setting c2 blocks2 t) (sym is) ((ap (λ (x : Table). x.turn) source.is ∙ sym old ∙ sym from_here, left (is_incremental setting.mode) order), near2 (is_incremental setting.mode))
          where
            read_root : word_at w.memory (Root setting.root) ≡ Some found
            read_root = subst (λ (x : Setting). word_at w.memory (Root x.root) ≡ Some found) setting_is read

            some : IsSome (word_at w.memory (Root setting.root))
            some = rw read_root refl

            -- the source was the root
            old : c.first ≡ s
            old = root_named same hash setting w c blocks map s source.made source.known
                (read_root ∙ ap Some (same_link ∙ ap (λ (x : Table). x.link) source.is))

            named : word_at w2.memory (Root setting.root) ≡ Some p.target.link
            named =
                ap (λ (x : Mem (Node K V)). word_at x (Root setting.root)) (written ∙ ap (λ (x : Setting). with_word w.memory (Root x.root) p.target.link) setting_is)
                ∙ word_at-with_word w.memory (Root setting.root) p.target.link (Root setting.root) some
                ∙ ap (λ (b : Bool). cond b (Some p.target.link) (word_at w.memory (Root setting.root))) (eq-eqb setting.root setting.root refl)

            -- the target is
            new : c2.first ≡ u
            new = root_becomes same hash setting w w2 c c2 blocks blocks2 map map2 lasts since u target.made target.known (named ∙ ap (λ (x : Table). Some x.link) target.is)

            turn : p.target.turn ≡ u
            turn = ap (λ (x : Table). x.turn) target.is

            left : (b : Bool) → cond b (u ≡ suc s) (c.first < u) → cond b (suc t ≡ c2.first) (t < c2.first)
            left true e = omega (arith, e, old, new, from_here)
            left false l = omega (arith, l, new, from_here)

            near2 : (b : Bool) → cond b (c2.first ≤ p.target.turn) (Unit {0})
            near2 true = omega (arith, new, turn)
            near2 false = tt
