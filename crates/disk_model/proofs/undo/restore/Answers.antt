use Rattle.std.proofs.Common.{◌∙◌, sym}
use Rattle.disk_model.proofs.PutBack.{last_within, rest_within, put_back_rest}
use Rattle.disk_model.proofs.undo.restore.Goals as goal

pub restore_range-requires : goal.restore_range-requires
restore_range-requires c =
    last_within _ c.next.new.self.iter.rest.now c.loop-range.range-iterator.iter.rest.now c.in-Some.range.now c.in-Some.ensures.steps
    c.loop-range.invariant.within

pub loop-range-preserved : goal.loop-range-preserved
loop-range-preserved c =
    let left = c.loop-range.range-iterator.iter.rest.now in
    let rest = c.next.new.self.iter.rest.now in
    record {
      within = rest_within c.loop-range.bytes c.restore_range.new.bytes rest left c.in-Some.range.now c.in-Some.ensures.steps c.restore_range.ensures
          c.loop-range.invariant.within;
      so_far = sym (put_back_rest c.loop-range.bytes c.restore_range.new.bytes rest left c.in-Some.range.now c.in-Some.ensures.steps c.restore_range.ensures)
          ∙ c.loop-range.invariant.so_far;
    }
