-- `join::give_back` meets its contract. Assumes nothing.
use Rattle.pages.proofs.Given.{given_inside, given-words, given-put}
use native.Mathlib.Omega.{arith}
use Rattle.pages.proofs.join.give_back.Goals as goal

pub overflow_sub-a : goal.overflow_sub-a
overflow_sub-a c = let h = c.requires in let q = given_inside h.holds h.apart h.stands.1 h.stands.2 h.stands.3 in omega arith

pub overflow_mul-a : goal.overflow_mul-a
overflow_mul-a c = let h = c.requires in let q = given_inside h.holds h.apart h.stands.1 h.stands.2 h.stands.3 in omega arith

pub overflow_add-e : goal.overflow_add-e
overflow_add-e c = let h = c.requires in let q = given_inside h.holds h.apart h.stands.1 h.stands.2 h.stands.3 in omega arith

pub overflow_add-e-2 : goal.overflow_add-e-2
overflow_add-e-2 c =
    let h = c.requires in
    let q = given_inside h.holds h.apart h.stands.1 h.stands.2 h.stands.3 in
    omega (arith, c.run_behind-after.ensures _ _ h.stands.1 h.stands.2)

pub overflow_mul-e : goal.overflow_mul-e
overflow_mul-e c = let h = c.requires in let q = given_inside h.holds h.apart h.stands.1 h.stands.2 h.stands.3 in omega (arith, c.run_behind-after.ensures _ _ h.stands.1 h.stands.2)

pub overflow_add-e-3 : goal.overflow_add-e-3
overflow_add-e-3 c =
    let h = c.requires in
    let q = given_inside h.holds h.apart h.stands.1 h.stands.2 h.stands.3 in
    omega (arith, c.run_behind-after.ensures _ _ h.stands.1 h.stands.2)

pub offset_bounds-words-a : goal.offset_bounds-words-a
offset_bounds-words-a c =
    let h = c.requires in
    let q = given_inside h.holds h.apart h.stands.1 h.stands.2 h.stands.3 in
    omega (arith, c.run_behind-after.ensures _ _ h.stands.1 h.stands.2)

pub slice_bounds-fuse-end : goal.slice_bounds-fuse-end
slice_bounds-fuse-end c =
    let h = c.requires in
    let q = given_inside h.holds h.apart h.stands.1 h.stands.2 h.stands.3 in
    omega (arith, c.run_behind-after.ensures _ _ h.stands.1 h.stands.2)

pub fuse-requires : goal.fuse-requires
fuse-requires c =
    let h = c.requires in
    let q = given_inside h.holds h.apart h.stands.1 h.stands.2 h.stands.3 in
    let e = c.run_behind-after.ensures _ _ h.stands.1 h.stands.2 in
    (h.stands.0, h.stands.2, q.4, omega (arith, e), given-words h.holds h.apart h.stands.1 h.stands.2 h.stands.3 _ e)

pub returns : goal.returns
returns c =
    let h = c.requires in given-put h.holds h.apart h.stands.1 h.stands.2 h.stands.3 _ (c.run_behind-after.ensures _ _ h.stands.1 h.stands.2) _ c.fuse.ensures
