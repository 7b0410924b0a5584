-- Values of phi from outside, evaluated by the checker. Assumes nothing.
use Rattle.std.specs.Prelude.{◌≡◌, refl}
use Rattle.elastic_probe.specs.Length.{length_in, bits_of}
use Rattle.elastic_probe.specs.Phi.{pairs, phi, at, parse, start, coords_of}

-- the last position of a query, and the first with a probe beyond the packing
pub phi_1_8192 : phi 1 8192 ≡ 984263337
unfolding phi pairs bits_of length_in
phi_1_8192 = refl

pub phi_1_8193 : phi 1 8193 ≡ 984263341
unfolding phi pairs bits_of length_in
phi_1_8193 = refl

pub coords_last : coords_of 984263337 ≡ at 1 8192
unfolding coords_of start parse bits_of length_in
coords_last = refl
