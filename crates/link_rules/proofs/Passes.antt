-- How equipment and items conduct, how their stars pass current, and that what a star is made of determines it.
use Rattle.std.proofs.Common.{◌≡◌, ℕ, List, Bool, true, false, cond, Some, None, refl, ap, sym, subst, ◌∙◌}
use Rattle.segment_cuts.specs.declared.mark.Spot.{Spot}
use Rattle.segment_cuts.specs.Sections.{AreSections}
use Rattle.graph_pages.specs.declared.star.Star.{Star}
use Rattle.cim_model.specs.Live.{Conduction, PassesAlong, PassesAll, PassesNothing, PassesSwitched, PassesTransformed, conduction, is_open, item_conduction}
use Rattle.cim_model.specs.Model.{is_of}
use Rattle.cim_words.specs.Groups.{is_passing, is_segment, is_switch, is_transformer}
use Rattle.cim_words.specs.declared.statement.Statement.{Statement}
use Rattle.graph_pages.specs.declared.star.Pass.{Pass}
use Rattle.graph_pages.specs.declared.star.Pass.TheVariants as pass
use Rattle.link_rules.specs.Inputs.{Inputs, IsPass, IsPassBy, IsStar, inputs, line, marks_in}
use Rattle.link_rules.specs.Parts.{class_pass, item_pass, switch_open}
use Rattle.room_words.specs.Items.{item_open}
use Rattle.room_words.specs.Overlay.{item_of}
use Rattle.room_words.specs.declared.items.TempItem.{TempItem}
use Rattle.room_words.specs.declared.items.TempItem.TheVariants as item
use Rattle.room_words.specs.declared.overlay.Overlay.{Overlay}

item_passes : (i : Inputs) (one : TempItem) → i.is_open ≡ item_open one → IsPassBy (item_conduction one) i (item_pass one)
item_passes i (item.Cut id segment length is_open) open_so = ap (λ (b : Bool). pass.Switch b) (sym open_so)
item_passes i (item.Clamp id segment length) open_so = refl
item_passes i (item.Jumper id first second phases is_open) open_so = ap (λ (b : Bool). pass.Switch b) (sym open_so)
item_passes i (item.Ground id at phases) open_so = refl

class_passes : (i : Inputs) (now : Bool) (w p t : Bool) → i.is_open ≡ now
    → IsPassBy (cond w PassesSwitched (cond p PassesAll (cond t PassesTransformed PassesNothing))) i (cond w (pass.Switch now) (cond p pass.Same (cond t pass.Transformer pass.Nothing)))
class_passes i now true p t open_so = ap (λ (b : Bool). pass.Switch b) (sym open_so)
class_passes i now false true t open_so = refl
class_passes i now false false true open_so = refl
class_passes i now false false false open_so = refl

-- the pass of an item, and that of equipment that is no segment
pub item_pass_is : (m : List Statement) (o : Overlay) (x : ℕ) (one : TempItem) → item_of o x ≡ Some one → IsPass (inputs m o x) (item_pass one)
item_pass_is m o x one is =
    let how : conduction m o x ≡ item_conduction one = rw is refl in
    let open_so : is_open m o x ≡ item_open one = rw is refl in
    subst (λ (how : Conduction). IsPassBy how (inputs m o x) (item_pass one)) (sym how) (item_passes (inputs m o x) one open_so)

pub class_pass_is : (m : List Statement) (o : Overlay) (x : ℕ) → item_of o x ≡ None → is_of m is_segment x ≡ false → IsPass (inputs m o x) (class_pass m o x)
class_pass_is m o x none segment =
    let how : conduction m o x ≡ cond (is_of m is_switch x) PassesSwitched (cond (is_of m is_passing x) PassesAll (cond (is_of m is_transformer x) PassesTransformed PassesNothing)) = rw (none, segment) refl in
    let open_so : is_open m o x ≡ switch_open m o x = rw none refl in
    subst (λ (how : Conduction). IsPassBy how (inputs m o x) (class_pass m o x)) (sym how)
    (class_passes (inputs m o x) (switch_open m o x) (is_of m is_switch x) (is_of m is_passing x) (is_of m is_transformer x) open_so)

pub line_pass_is : (m : List Statement) (o : Overlay) (x : ℕ) (found : Pass) → item_of o x ≡ None → is_of m is_segment x ≡ true → IsPassBy PassesAlong (inputs m o x) found → IsPass (inputs m o x) found
line_pass_is m o x found none segment by =
    let how : conduction m o x ≡ PassesAlong = rw (none, segment) refl in
    subst (λ (how : Conduction). IsPassBy how (inputs m o x) found) (sym how) by

-- ---- what a star is made of determines it

one_pass : (i : Inputs) (how : Conduction) (a b : Pass) → ((these those : List (List Spot)) → AreSections (marks_in i) these → AreSections (marks_in i) those → these ≡ those) → IsPassBy how i a → IsPassBy how i b → a ≡ b
one_pass i PassesNothing a b one is also = is ∙ sym also
one_pass i PassesAlong a b one (these, are, is) (those, also, other) = is ∙ ap (line i) (one these those are also) ∙ sym other
one_pass i PassesSwitched a b one is also = is ∙ sym also
one_pass i PassesAll a b one is also = is ∙ sym also
one_pass i PassesTransformed a b one is also = is ∙ sym also

pub one_star : (x : ℕ) (i : Inputs) (a b : Star) → ((these those : List (List Spot)) → AreSections (marks_in i) these → AreSections (marks_in i) those → these ≡ those) → IsStar x i a → IsStar x i b → a ≡ b
one_star x i a b one is also j =
    let id = is.id ∙ sym also.id in
    let class = is.class ∙ sym also.class in
    let on = is.on ∙ sym also.on in
    let spokes = is.spokes ∙ sym also.spokes in
    let pass = one_pass i i.conducts a.pass b.pass one is.pass also.pass in
    record { id = id j; class = class j; on = on j; spokes = spokes j; pass = pass j }
