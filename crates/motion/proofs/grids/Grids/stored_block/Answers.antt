-- `stored_block`: by an empty table a reference is its own number. Assumes nothing.
use Rattle.std.proofs.Common.{◌≡◌, nat_eq, slice_index_or, ◌∙◌}
use Rattle.motion.specs.Grids.{ref_at, vector_at, block_read}
use Rattle.motion.proofs.Pictures.{by_number}
use Rattle.motion.proofs.grids.Grids.stored_block.Goals as goal

pub returns : goal.returns
unfolding block_read
returns c =
    let i = c.args.i in
    let l = c.args.self.now.list0 in
    let m = c.args.self.now.list1 in
    λ j. record {
      inter = nat_eq (slice_index_or c.args.self.now.inter.now i 0) 1;
      list0 = (c.stored.ensures ∙ (λ k. vector_at (by_number l.pictures.now (ref_at l.references.now i) c.requires.no_tables.0 k) l.vectors.now i)) j;
      list1 = (c.stored-2.ensures ∙ (λ k. vector_at (by_number m.pictures.now (ref_at m.references.now i) c.requires.no_tables.1 k) m.vectors.now i)) j;
    }
