-- Who has the blocks of a map that has a further table.
use Rattle.std.specs.Prelude.{◌≡◌, ℕ, ◌*◌, ◌<◌, Bool, true}
use Rattle.std.proofs.Common.{refl, ap, sym, subst, ◌∙◌, inl, inr, arith}
use Rattle.std.proofs.lemmas.Bool.{cases_eq}
use Rattle.seize_rule.specs.Given.SeizeLaw.{With}
use Rattle.seize_rule.specs.Given.SeizeWorld.{World, InUse}
use Rattle.map_machines.specs.Given.TablesChunks.{is_incremental}
use Rattle.map_machines.specs.Given.TablesDeclared.node.Node.{Node}
use Rattle.map_machines.specs.Given.TablesDeclared.setting.Setting.{Setting}
use Rattle.map_machines.specs.Given.TablesDeclared.table.Table.{Table}
use Rattle.map_rule.specs.Chart.{Chart, put}
use Rattle.map_rule.specs.Rule.{Common}
use Rattle.map_rule.specs.Moves.{Links, after}
use Rattle.map_rule.specs.Words.{Blocks}
use Rattle.map_rule.specs.Maps.{spot_of, IsTable}
use Rattle.map_rule.specs.InWorld.{IsOut, IsReached, SameBlocks}
use Rattle.map_rule.proofs.World.Hands.{Hands}
use Rattle.map_rule.proofs.World.Linked.{with_table_block}
use Rattle.map_rule.proofs.Moves.Links.{linked_there}
use Rattle.map_rule.proofs.World.WentWrote.{IsLater}
use Rattle.map_rule.proofs.Moves.Writes.{put_here, put_elsewhere}

table_of : (table : Table) (link len limit turn : ℕ) → table.link ≡ link → table.len ≡ len → table.limit ≡ limit → table.turn ≡ turn
    → table ≡ record { link = link; len = len; limit = limit; turn = turn }
table_of table link len limit turn a b c d = rw (sym a, sym b, sym c, sym d) refl

module _ {K : Type 0} (c : Chart K) (blocks : Blocks) (b : ℕ) where
  pub same_blocks_linked : SameBlocks c blocks (with_table_block blocks c.past b)
  same_blocks_linked = record {
    tables = λ t made known. (put_elsewhere blocks.table c.past b t (omega arith), put_elsewhere blocks.table_known c.past true t (omega arith) ∙ known);
    pairs = λ n was known. (refl, known);
    tables_back = λ t made known. sym (put_elsewhere blocks.table_known c.past true t (omega arith)) ∙ known;
    pairs_back = λ n was known. known;
  }

  module _ (hash : K → ℕ) (incremental : Bool) (len limit : ℕ) where
    pub later_linked : IsLater c blocks → IsLater (after (spot_of hash) incremental (Links len limit) c) (with_table_block blocks c.past b)
    later_linked later t u l made known =
        elim (cases_eq u c.past) as (λ _. put blocks.table_known c.past true u ≡ true) [
          | inl e ↦ ap (put blocks.table_known c.past true) e ∙ put_here blocks.table_known c.past true
          | inr ne ↦ (let before : u < c.past = omega arith in
              put_elsewhere blocks.table_known c.past true u ne ∙ later t u l before (sym (put_elsewhere blocks.table_known c.past true t (omega arith)) ∙ known))
        ]

    -- what the caller knows of it
    pub table_linked_is : (table : Table) → table.link ≡ b * 2048 → table.len ≡ len → table.limit ≡ limit → table.turn ≡ c.past
        → IsTable (after (spot_of hash) incremental (Links len limit) c) (with_table_block blocks c.past b) table c.past
    table_linked_is table link_is len_is limit_is turn_is = record {
      made = omega arith;
      known = put_here blocks.table_known c.past true;
      is = table_of table _ _ _ _ (link_is ∙ ap (λ x. x * 2048) (sym (put_here blocks.table c.past b))) (len_is ∙ sym (put_here c.len c.past len)) (limit_is ∙ sym (put_here c.limit c.past limit)) turn_is;
    }

module _ {K V : Type 0} (same : K → K → Bool) (hash : K → ℕ) (setting : Setting) (w : World (Node K V)) (c : Chart K) (blocks : Blocks) (b len limit : ℕ)
    (rule : Common same (spot_of hash) (is_incremental setting.mode) c) (in_use : w.hand b ≡ InUse setting.counter) (h : Hands same hash setting w c blocks) where
  pub hands_table : Hands same hash setting w (after (spot_of hash) (is_incremental setting.mode) (Links len limit) c) (with_table_block blocks c.past b)
  hands_table = record {
    tables = λ t l made. elim (cases_eq t c.past) as (λ _. w.hand (put blocks.table c.past b t) ≡ InUse setting.counter) [
      | inl e ↦ ap (λ x. w.hand (put blocks.table c.past b x)) e ∙ ap w.hand (put_here blocks.table c.past b) ∙ in_use
      | inr ne ↦ ap w.hand (put_elsewhere blocks.table c.past b t ne) ∙ h.tables t l (omega arith)
    ];
    pairs = h.pairs;
    named = λ t i n phase borrowed l made e.
        moved t n (h.named t i n phase borrowed l (linked_there same (spot_of hash) (is_incremental setting.mode) c rule t i n phase borrowed e) e);
    tables_out = λ t made known. elim (cases_eq t c.past) as (λ _. IsOut (w.hand (put blocks.table c.past b t))) [
      | inl e ↦ subst IsOut (sym (ap (λ x. w.hand (put blocks.table c.past b x)) e ∙ ap w.hand (put_here blocks.table c.past b) ∙ in_use)) tt
      | inr ne ↦ subst IsOut (sym (ap w.hand (put_elsewhere blocks.table c.past b t ne))) (h.tables_out t (omega arith) (sym (put_elsewhere blocks.table_known c.past true t ne) ∙ known))
    ];
    pairs_out = h.pairs_out;
  }
    where
      moved : (t n : ℕ) → IsReached same hash setting w c blocks t n
          → IsReached same hash setting w (after (spot_of hash) (is_incremental setting.mode) (Links len limit) c) (with_table_block blocks c.past b) t n
      moved t n (inl used) = inl used
      moved t n (inr r) = inr (r.0, r.1, omega (arith, r.2), r.3, r.4 ∙ ap With (sym (put_elsewhere blocks.table c.past b r.0 (omega (arith, r.2)))))
