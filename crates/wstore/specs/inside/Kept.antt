-- Places that can be written, and an image that they can be brought back to.
use Rattle.std.specs.Prelude.{◌≡◌, Bool, false, List, length, refl}
use Rattle.std.specs.Coded.{Coded, code_by, coded×, coded_list}

-- what is at the places, and what was when the image was kept
pub record WithImage (T : Type 0) : Type 0 where
  pub places : List T
  pub image : List T

-- stored as the pair of its fields
abbrev pub with_image_code : {T : Type 0} → Coded T → Coded (WithImage T)
with_image_code {T} code =
    code_by (List T × List T) (coded× (coded_list code) (coded_list code)) (λ w. (w.places, w.image)) (λ p. record { places = p.0; image = p.1 }) (λ _. refl)

-- there are as many as in the image, and they are the image's where nothing was written since
pub record IsKept {T : Type 0} (places image : List T) (written : Bool) : Type 0 where
  pub same : length image ≡ length places
  pub unwritten : written ≡ false → places ≡ image
