-- Numbers of sites: that of the first space that is named of the site.
use Rattle.std.specs.Prelude.{ℕ, option_map, unwrap_or}
use Rattle.spaces.specs.declared.site.Site.{Site}
use Rattle.spaces.specs.Sites.{same_site}
use Rattle.auth_events.specs.Book.{space_named}
use Rattle.auth_events.specs.Tables.{Tables, number_of}

-- the number of the site, or 0
abbrev pub site_number : Tables → Site → ℕ
site_number names place = unwrap_or (number_of (λ space. same_site space.site place) names.spaces) 0

-- the number of the space's site, or 0
abbrev pub site_no : Tables → ℕ → ℕ
site_no names s = unwrap_or (option_map (λ space. site_number names space.site) (space_named names s)) 0
