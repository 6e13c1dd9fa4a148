-- Worked examples of the field and of the S-box, from the standard's sections 4.2, 4.2.1 and 5.1.1.
use Rattle.std.proofs.Common.{◌≡◌, refl}
use Rattle.aes_pad.specs.Field.{◌⊕◌, xtimes, product_by_bits, product, inverse_below, inverse, affine, sub_byte}

sum_of : 0x57 ⊕ 0x83 ≡ 0xd4
sum_of = refl

times_x : xtimes 0x57 ≡ 0xae
times_x = refl

times_x_reduced : xtimes 0xae ≡ 0x47
times_x_reduced = refl

product_of : product 0x57 0x83 ≡ 0xc1
unfolding product_by_bits product
product_of = refl

second_product : product 0x57 0x13 ≡ 0xfe
unfolding product_by_bits product
second_product = refl

inverse_of : inverse 0x53 ≡ 0xca
unfolding product_by_bits product inverse_below
inverse_of = refl

inverse_of_last : inverse 0xff ≡ 0x1c
unfolding product_by_bits product inverse_below
inverse_of_last = refl

inverse_of_zero : inverse 0 ≡ 0
unfolding product_by_bits product inverse_below
inverse_of_zero = refl

affine_of_zero : affine 0 ≡ 0x63
affine_of_zero = refl

affine_of_one : affine 1 ≡ 0x7c
affine_of_one = refl

sub_byte_of : sub_byte 0x53 ≡ 0xed
unfolding product_by_bits product inverse_below sub_byte
sub_byte_of = refl
