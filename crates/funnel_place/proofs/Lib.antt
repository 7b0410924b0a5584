mod PlaceAll
