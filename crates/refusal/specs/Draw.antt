-- Which draw a range reduction was refused at, in numbers. Assumes nothing.
use Rattle.std.specs.Prelude.{List, [], ◌∷◌, ℕ}
use Rattle.refusal.specs.declared.Draw.{Draw}
use Rattle.refusal.specs.declared.Draw.TheVariants as draw
use Rattle.refusal.specs.declared.RangeRefusal.{RangeRefusal}

-- "tags 0 ordinary, 1 primary, 2 and 3 fallback A and B"; an elastic draw, which has no tag, is 4
unfoldable pub domain_of : Draw → ℕ
domain_of (draw.Ordinary level) = 0
domain_of draw.Primary = 1
domain_of draw.FallbackA = 2
domain_of draw.FallbackB = 3
domain_of (draw.Elastic level) = 4

-- "For primary and fallback the level is 0"
unfoldable pub draw_level_of : Draw → ℕ
draw_level_of (draw.Ordinary level) = level
draw_level_of draw.Primary = 0
draw_level_of draw.FallbackA = 0
draw_level_of draw.FallbackB = 0
draw_level_of (draw.Elastic level) = level

-- "The reduction's refusal should carry its domain, level and logical probe", behind "the number of words"
abbrev pub range_values : RangeRefusal → List ℕ
range_values r = r.words ∷ domain_of r.draw ∷ draw_level_of r.draw ∷ r.probe.0 ∷ []
