-- A map that begins where the first root is free has no other fault than that memory was refused, and leaves the words of slots.
use Rattle.std.specs.Prelude.{◌==◌, ◌/◌, ◌%◌, nat_le, max, if◌then◌else◌}
use Rattle.std.proofs.Common.{◌≡◌, ℕ, ◌+◌, ◌≤◌, ◌^◌, Bool, true, false, inl, inr, refl, sym, ap, subst, ◌∙◌}
use Rattle.std.proofs.lemmas.Bool.{le-leb}
use Rattle.many_maps.specs.Given.SeizeWordsDeclared.at.At.{At}
use Rattle.many_maps.specs.Given.SeizeWordsDeclared.at.At.TheVariants.{Root, Used, Word}
use Rattle.many_maps.specs.Given.SeizeWordsDeclared.fault.Fault.TheVariants.{Capacity, Memory}
use Rattle.many_maps.specs.Given.SeizeWordsMem.{Mem, Took, value_at, with_word}
use Rattle.many_maps.specs.Given.SeizeWordsPlan.{Now, Steps}
use Rattle.many_maps.proofs.Given.SeizeWordsOneOwner.Operations.{stored, exchanged, made as make_made, taken}
use Rattle.many_maps.proofs.Given.SeizeRuleRows.Leaving.{steps_back}
use Rattle.many_maps.specs.Given.SeizeDeclared.advance.Advance.{Advance}
use Rattle.many_maps.specs.Given.SeizeDeclared.advance.Advance.TheVariants as progress
use Rattle.many_maps.specs.Given.ResizeNewMap as opening
use Rattle.many_maps.specs.Given.ResizeNewTable.{planned, goes, first_table, with_block, after_making, made, linked, other, plan_at, new_table_plan}
use Rattle.many_maps.specs.Given.TablesProbes.{limit_of}
use Rattle.many_maps.specs.Given.TablesDeclared.node.Node.{Node}
use Rattle.many_maps.specs.Given.TablesDeclared.node.Node.TheVariants as node
use Rattle.many_maps.specs.Given.TablesDeclared.setting.Setting.{Setting}
use Rattle.many_maps.specs.Given.TablesDeclared.status.TheConstants.Status.{PROMOTED}
use Rattle.many_maps.specs.Given.TablesDeclared.table.Table.{Table}
use Rattle.many_maps.specs.Given.TablesDeclared.table_words.TheConstants.{STATUS, PLACES}
use Rattle.many_maps.specs.Given.ResizeDeclared.new_table.NewTable.{NewTable}
use Rattle.many_maps.specs.Given.ResizeDeclared.new_table.Making.{Making}
use Rattle.many_maps.specs.Given.ResizeDeclared.new_table.Making.TheVariants as makes
use Rattle.many_maps.specs.Given.ResizeDeclared.new_map.NewMap.{NewMap}
use Rattle.many_maps.specs.Given.ResizeDeclared.new_map.Opening.{Opening}
use Rattle.many_maps.specs.Given.ResizeDeclared.new_map.Opening.TheVariants as at
use Rattle.owner_facts.specs.Maps.FaultsBegins.{IsFirst, IsForRoot, NeedsMemoryAlone, NeedsOn, FreeRootsSuffice, MemoryAloneIsRefused}

module _ {K V : Type 0} (m : Mem (Node K V)) where
  module _ (n : NewTable) (root : ℕ) (link : n.link ≡ Root root) where
    -- after a step of a making
    abbrev Leads : NewTable × Advance Table → Type 0
    Leads (n2, progress.Goes) = IsForRoot n2
    Leads (n2, progress.Refused fault) = fault ≡ Memory
    Leads _ = Unit {0}

    abbrev MakesOn : Mem (Node K V) → NewTable × Advance Table → Type 0
    MakesOn m2 end = (m2.slots ≡ m.slots) × Leads end

    as_for : (m2 : Mem (Node K V)) (end other : NewTable × Advance Table) → end ≡ other → m2.slots ≡ m.slots → Leads other → MakesOn m2 end
    as_for m2 end other e slots leads = (slots, subst Leads (sym e) leads)

    after_first : (l : At) → l ≡ Root root → (table : Table) → IsFirst (after_making l table)
    after_first l e table = subst (λ (x : At). IsFirst (after_making x table)) (sym e) tt

    link_slots : (l : At) → l ≡ Root root → (w : ℕ) → (with_word m l w).slots ≡ m.slots
    link_slots l e w = ap (λ (x : At). (with_word m x w).slots) e

    making_on : (stands : Making) → IsFirst stands → (m2 : Mem (Node K V)) (end : NewTable × Advance Table)
        → Steps Took value_at m (plan_at n stands) m2 end → MakesOn m2 end
    making_on (makes.Sums before reason sum) first m2 end s = absurd first
    making_on (makes.Makes table) first m2 end s =
        elim (make_made m (made n table) (node.Table table.len table.limit table.turn) ((table.len + PLACES) % 2 ^ 64) m2 end s) as (λ _. MakesOn m2 end) [
          | inl d ↦ as_for m2 end _ d.3 (ap (λ (x : Mem (Node K V)). x.slots) d.2) ((root, link), after_first n.link link (with_block table d.0))
          | inr d ↦ as_for m2 end _ d.3 (ap (λ (x : Mem (Node K V)). x.slots) d.2) refl
        ]
    making_on (makes.Promotes table) first m2 end s =
        let d = stored m (λ out. Now (goes n (makes.Links table))) (Word (table.link / 2048) STATUS) PROMOTED m2 end s in
        as_for m2 end _ d.1 (ap (λ (x : Mem (Node K V)). x.slots) d.0) ((root, link), tt)
    making_on (makes.Links table) first m2 end s =
        elim (exchanged m (linked n table) n.link 0 table.link m2 end s) as (λ _. MakesOn m2 end) [
          | inl d ↦ as_for m2 end _ d.3 (ap (λ (x : Mem (Node K V)). x.slots) d.2 ∙ link_slots n.link link table.link) tt
          | inr d ↦ as_for m2 end _ d.3 (ap (λ (x : Mem (Node K V)). x.slots) d.2) ((root, link), tt)
        ]
    making_on (makes.Drops table found) first m2 end s =
        let d = taken m (λ out. other n found) (table.link / 2048) m2 end s in
        as_for m2 end _ d.3.2 (ap (λ (x : Mem (Node K V)). x.slots) d.2) tt
    making_on (makes.Over table) first m2 end s = as_for m2 end _ s.1 (ap (λ (x : Mem (Node K V)). x.slots) s.0) tt
    making_on (makes.Refused fault) first m2 end s = as_for m2 end _ s.1 (ap (λ (x : Mem (Node K V)). x.slots) s.0) first

  module _ (n : NewMap) (m2 : Mem (Node K V)) where
    -- after a step of the beginning
    abbrev GoesOn : NewMap × Advance Setting → Type 0
    GoesOn end = (m2.slots ≡ m.slots) × NeedsOn m2 end

    as_told : (end other : NewMap × Advance Setting) → end ≡ other → m2.slots ≡ m.slots → NeedsOn m2 other → GoesOn end
    as_told end other e slots leads = (slots, subst (NeedsOn m2) (sym e) leads)

    shards_told : (s : Setting) → max n.len 8 ≤ 2 ^ 48 → NeedsOn m2 (opening.with_shards (record n { setting = s }))
    shards_told s few = by (n.len == 0)
      where
        one : (b : Bool) → nat_le (max n.len 8) (2 ^ 48) ≡ b
            → IsFirst (if b then makes.Makes (planned (max n.len 8) (limit_of (max n.len 8)) 0) else makes.Refused Capacity)
        one true e = tt
        one false e = absurd (let l = le-leb (max n.len 8) (2 ^ 48) few in cc (e, l))

        by : (none : Bool)
            → NeedsOn m2 (if none then opening.done (record n { setting = s }) else opening.goes (record n { setting = s }) (at.Tables (first_table s n.len)))
        by true = tt
        by false = ((s.root, refl), one (nat_le (max n.len 8) (2 ^ 48)) refl)

    opened_told : (making : NewTable) (p : Advance Table) (root : ℕ) (before : NewTable) (link : before.link ≡ Root root) → Leads before root link (making, p)
        → NeedsOn m2 (opening.opened n (making, p))
    opened_told making progress.Goes root before link leads = leads
    opened_told making progress.Waits root before link leads = tt
    opened_told making (progress.Done table) root before link leads = tt
    opened_told making (progress.Refused fault) root before link leads = leads

    begins_at : (stands : Opening) → NeedsMemoryAlone m n stands → (end : NewMap × Advance Setting)
        → Steps Took value_at m (opening.plan_at n stands) m2 end → GoesOn end
    begins_at at.Takes known end s =
        elim (exchanged m (opening.taken n) (Used n.setting.root) 0 1 m2 end s) as (λ _. GoesOn end) [
          | inl d ↦ as_told end _ d.3 (ap (λ (x : Mem (Node K V)). x.slots) d.2) known.1
          | inr d ↦ absurd (let k = known.0 in let w = d.1.0 in d.1.1 (cc (k, w)))
        ]
    begins_at at.Shards known end s =
        elim (make_made m (opening.made n) node.Shards ((n.setting.mask + 1) % 2 ^ 64) m2 end s) as (λ _. GoesOn end) [
          | inl d ↦ as_told end _ d.3 (ap (λ (x : Mem (Node K V)). x.slots) d.2) (shards_told (opening.with_counter n.setting d.0) known)
          | inr d ↦ as_told end _ d.3 (ap (λ (x : Mem (Node K V)). x.slots) d.2) refl
        ]
    begins_at (at.Tables making) known end s =
        let b = steps_back (opening.opened n) m m2 (new_table_plan making) end s in
        let on = making_on making known.0.0 known.0.1 making.stands known.1 m2 b.0 b.1 in
        as_told end _ b.2 on.0 (opened_told b.0.0 b.0.1 known.0.0 making known.0.1 on.1)
    begins_at (at.Unmakes fault) known end s =
        let d = taken m (λ out. Now (opening.goes n (at.Frees fault))) n.setting.counter m2 end s in
        as_told end _ d.3 (ap (λ (x : Mem (Node K V)). x.slots) d.2) known
    begins_at (at.Frees fault) known end s =
        let d = stored m (λ out. Now (opening.refused n fault)) (Used n.setting.root) 0 m2 end s in
        as_told end _ d.1 (ap (λ (x : Mem (Node K V)). x.slots) d.0) known
    begins_at at.Over known end s = as_told end _ s.1 (ap (λ (x : Mem (Node K V)). x.slots) s.0) tt
    begins_at (at.Refused fault) known end s = as_told end _ s.1 (ap (λ (x : Mem (Node K V)). x.slots) s.0) known

module _ (K V : Type 0) where
  pub free_roots_suffice : FreeRootsSuffice K V
  free_roots_suffice setting roots len m free few = (free, few)

  pub memory_alone_is_refused : MemoryAloneIsRefused K V
  memory_alone_is_refused m m2 n end known s = begins_at m n m2 n.stands known end s
