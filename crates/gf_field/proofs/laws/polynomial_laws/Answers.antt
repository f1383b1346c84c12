use Rattle.std.proofs.lemmas.List.Elements.{recursion_from_All}
use Rattle.gf_field.proofs.laws.polynomial_laws.Goals as goal
use Rattle.gf_field.proofs.Roots.{coefficients_agree, values_agree}
use Rattle.gf_field.proofs.Interpolation.{interpolation-interpolates, interpolation-only, weighted}
use Rattle.std.proofs.Common.{◌<◌, sym}

pub returns-clause-equal_coefficients : goal.returns-clause-equal_coefficients
returns-clause-equal_coefficients c points f g hp apart hf hg agree k =
    coefficients_agree points f g hf.short hg.short (recursion_from_All (λ x. x < 256) points hp) (recursion_from_All (λ x. x < 256) f hf.bytes)
    (recursion_from_All (λ x. x < 256) g hg.bytes) apart agree k

pub returns-clause-equal_values : goal.returns-clause-equal_values
returns-clause-equal_values c points f g hp apart hf hg agree x =
    values_agree points f g hf.short hg.short (recursion_from_All (λ x. x < 256) points hp) (recursion_from_All (λ x. x < 256) f hf.bytes)
    (recursion_from_All (λ x. x < 256) g hg.bytes) apart agree x

pub returns-clause-exists : goal.returns-clause-exists
returns-clause-exists c points values hp apart hv same = interpolation-interpolates points hp apart values hv same

pub returns-clause-only : goal.returns-clause-only
returns-clause-only c points values cs hp apart hv same h x = sym (interpolation-only points hp apart values hv same cs h x)

pub returns-clause-weighted : goal.returns-clause-weighted
returns-clause-weighted c points values weights cs x hx hp apart hv same as_long are h =
    weighted points hp apart values hv same weights x hx are as_long cs h
